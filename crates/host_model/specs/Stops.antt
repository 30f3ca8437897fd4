-- What a power stop leaves within one command, and within a run.
use Rattle.std.specs.Prelude.{◌≡◌, ◌⊎◌, ℕ, true, false, List, [], ◌∷◌, Option, Some, is_some, IfSome}
use Rattle.lif_model.specs.Stops.{LeavesOnly}
use Rattle.lif_model.specs.Tape.{Tape}
use Rattle.lif_model.specs.Volume.{is_foreign_gated}
use Rattle.lif_model.specs.Packing.{finished_volume_of}
use Rattle.host_model.specs.Requests.{OfVolume, Get, Pack, Item, Asks}
use Rattle.host_model.specs.HostStates.{HostState, volume_at}
use Rattle.host_model.specs.Replies.{volume_behind}
use Rattle.host_model.specs.Steps.{Event, SettlesAlike, packs_as}

-- Where no open redo of the tape before would overwrite a file that is not ours, a stop within a command leaves one of which this holds,
-- and that is so as well. Where one would, it leaves a tape that settles to the same, in all records but the gate.
pub record IsLeft (before : Option Tape) (x : Tape) (By : Type 0) : Type 0 where
  pub own : IfSome before (λ t. is_foreign_gated t ≡ false) → By × (is_foreign_gated x ≡ false)
  pub foreign : SettlesAlike before x

-- A stop within a command of the volume leaves the volume before it or the one that it makes; a get makes none, and a packing leaves the
-- same files. Within any other item a stop leaves the tape as it is.
abbrev pub MayBeLeft : Item → HostState → Tape → Type 0
MayBeLeft (Asks (OfVolume command)) s x =
    IsLeft s.tape x ((finished_volume_of x ≡ volume_at s) ⊎ (finished_volume_of x ≡ volume_behind (Asks (OfVolume command)) s))
MayBeLeft (Asks (Get name)) s x = IsLeft s.tape x (finished_volume_of x ≡ volume_at s)
MayBeLeft (Asks Pack) s x =
    IsLeft s.tape x (packs_as s.records (finished_volume_of x) ≡ packs_as s.records (volume_at s))
MayBeLeft _ s x = s.tape ≡ Some x

-- the same of all stops since the moment `before` at which the item began; earlier ones are told by `past`
abbrev pub StopsLeave : Event → ℕ → ℕ → (past since : ℕ → Tape → Type 0) → Type 0
StopsLeave e before now past since =
    is_some e.before.tape ≡ true → LeavesOnly before now past since (MayBeLeft e.item e.before)

-- what a stop leaves within a run of these items, or after the last of them
abbrev pub LeftWithin : List Event → HostState → Tape → Type 0
LeftWithin [] finish x = finish.tape ≡ Some x
LeftWithin (e ∷ events) finish x = MayBeLeft e.item e.before x ⊎ LeftWithin events finish x

-- each tape that a stop since the run began may have left
abbrev pub LeavesWithin : HostState → List Event → HostState → (Tape → Type 0) → Type 0
LeavesWithin start events finish left =
    is_some start.tape ≡ true → (x : Tape) → left x → LeftWithin events finish x
