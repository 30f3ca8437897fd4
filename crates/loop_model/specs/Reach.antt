-- How far the frames of a log came, on a ring of k devices. The host is party 0 and the devices are
-- parties 1 to k; link s goes from party s to the next, and link k back to the host. Lost frames and
-- the counting of links are this project's own.
use Rattle.std.specs.Prelude.{◌≡◌, ℕ, suc, ◌+◌, ◌-◌, ◌==◌, nat_lt, nat_le, Bool, true, ◌&&◌, ◌||◌, if◌then◌else◌, List, [], ◌∷◌, Option, Some, None, sum_by, count_by, filter}
use Rattle.il_frames.specs.declared.entry.Entry.{Entry}
use Rattle.il_frames.specs.declared.entry.Outcome.{Outcome}
use Rattle.il_frames.specs.declared.entry.Outcome.TheVariants as outcome
use Rattle.il_frames.specs.NamedFrames.{is_lost_nrd}

-- a controller's frame of this source that ended so reached this device: its source, and of the others
-- those on its way. The way of a frame of the host ends at the host; that of a device's, which is the
-- last of the ring, begins there
abbrev pub is_reached : ℕ → Outcome → ℕ → Bool
is_reached source (outcome.Back f) party = true
is_reached source (outcome.Taken q) party = (party == source) || nat_le party q
is_reached source (outcome.Lost q) party =
    (party == source) || (((source == 0) && (q == 0)) || nat_lt party q)

-- how many links lie from one party to another in the ring's direction: 1 to k + 1
abbrev pub distance : ℕ → ℕ → ℕ → ℕ
distance k from to = if nat_lt from to then to - from else (suc k + to) - from

-- the links that a frame of the source crossed until it ended so; a loss happens on a link too
abbrev pub crossed : ℕ → ℕ → Outcome → ℕ
crossed k source (outcome.Back f) = suc k
crossed k source (outcome.Taken q) = distance k source q
crossed k source (outcome.Lost q) = distance k source q

-- the links that an entry stands for
abbrev pub links_of : ℕ → Entry → ℕ
links_of k e = crossed k e.source e.outcome

-- a frame of the source that ended so came to this party
abbrev pub came_to : ℕ → ℕ → ℕ → Outcome → Bool
came_to k party source (outcome.Back f) = true
came_to k party source (outcome.Taken q) = nat_le (distance k source party) (distance k source q)
came_to k party source (outcome.Lost q) = nat_lt (distance k source party) (distance k source q)

-- the entry's frame came to this party
abbrev pub brings_to : ℕ → ℕ → Entry → Bool
brings_to k party e = came_to k party e.source e.outcome

-- the party that took the frame, or else the one before
abbrev pub taken_by : Outcome → Option ℕ → Option ℕ
taken_by (outcome.Back f) before = before
taken_by (outcome.Taken q) before = Some q
taken_by (outcome.Lost q) before = before

-- the device that last took a frame of the host, and so sources the data, after one more entry
abbrev pub sourcing_after : Option ℕ → Entry → Option ℕ
sourcing_after before e = if e.source == 0 then taken_by e.outcome before else before

-- The device whose data frame the host held as the log ended, where a lost NRD of the host ends it:
-- this frame has no entry. The first argument is the device that sourced data before the log.
abbrev pub held_at_end : Option ℕ → List Entry → Option ℕ
held_at_end before [] = None
held_at_end before (e ∷ []) = if is_lost_nrd e then before else None
held_at_end before (e ∷ next ∷ log) = held_at_end (sourcing_after before e) (next ∷ log)

-- the links that a held frame of this device had crossed
abbrev pub held_links : ℕ → Option ℕ → ℕ
held_links k None = 0
held_links k (Some p) = suc k - p

-- how often such a frame had come to this party
abbrev pub held_passes : ℕ → Option ℕ → ℕ
held_passes party None = 0
held_passes party (Some p) = if nat_lt p party then 1 else 0

-- the crossings of links that entries stand for, with those of a frame that is still held
abbrev pub links_so_far : ℕ → List Entry → Option ℕ → ℕ
links_so_far k log held = sum_by (links_of k) log + held_links k held

-- the number of frames that entries brought to a party, with one that is still held
abbrev pub passes_so_far : ℕ → ℕ → List Entry → Option ℕ → ℕ
passes_so_far k party log held = count_by (brings_to k party) log + held_passes party held

-- the crossings of links that a log stands for
abbrev pub links : ℕ → List Entry → ℕ
links k log = links_so_far k log (held_at_end None log)

-- the number of frames that a log brought to a party
abbrev pub passes : ℕ → ℕ → List Entry → ℕ
passes k party log = passes_so_far k party log (held_at_end None log)

-- a log tells by itself whether a frame was held at its end: no device that sourced data before it
-- matters
abbrev pub TellsHeld : List Entry → Type 0
TellsHeld log = (before : Option ℕ) → held_at_end before log ≡ held_at_end None log

-- the planned hops, numbers of crossings, after the count `before` and up to the count `now`
abbrev pub met : List ℕ → ℕ → ℕ → List ℕ
met hops before now = filter (λ hop. nat_lt before hop && nat_le hop now) hops
