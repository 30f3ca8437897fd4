-- What the frames of a lend did on the ring, with those of the addressing before it.
use Rattle.std.proofs.Common.{◌≡◌, ◌≤◌, ◌+◌, ◌++◌, ◌&&◌, ◌==◌, ◌∙◌, ℕ, Bool, true, false, not, List, [], ◌∷◌, length, None, refl, sym, ap, subst, arith, length-append}
use Rattle.std.specs.Prelude.{sum_by, count_by}
use Rattle.std.specs.List.{list_all}
use Rattle.std.proofs.lemmas.Bool.{and_from, and_parts, ne_eqb}
use Rattle.std.proofs.lemmas.List.Folds.{list_all-append}
use Rattle.il_frames.specs.declared.entry.Entry.{Entry}
use Rattle.il_frames.specs.declared.entry.Outcome.{Outcome}
use Rattle.il_frames.specs.declared.entry.Outcome.TheVariants as outcome
use Rattle.il_frames.specs.declared.frame.Frame.{Frame}
use Rattle.il_frames.specs.NamedFrames.{is_frame, is_lost, nrd}
use Rattle.il_device.specs.State.{DeviceState, risen_by}
use Rattle.il_drive.specs.State.{device_of}
use Rattle.il_ports.specs.Media.{MediumView}
use Rattle.loop_model.specs.Devices.{EachBecomes}
use Rattle.loop_model.specs.Leading.{OneTalkerLed, are_commands_led, controller_after, has_one_talker_led, roles_led}
use Rattle.loop_model.specs.Reach.{brings_to, held_at_end, held_links, links, links_of, links_so_far, passes}
use Rattle.loop_model.proofs.DeviceLaws.{each_same, each_then, each_weaker}
use Rattle.loop_model.proofs.ExchangeLaws.{stands, stands_as, whole_stands}
use Rattle.loop_model.proofs.LeadingLaws.{OneTalkerLed-no_lend, are_commands_led-append, has_one_talker_led-append, roles_led-append, roles_led-no_lend}
use Rattle.loop_model.proofs.ReachLaws.{links_so_far-append, passes_so_far-append}
use Rattle.loop_model.specs.Roles.{is_at_most_one, talkers}
use Rattle.il_ring.specs.Guests.{last_asked}
use Rattle.il_ring.specs.ControlledAdds.{AllTookSince}
use Rattle.il_ring.specs.Lends.{lend_entries}
use Rattle.il_ring.specs.Rings.{RingView, devices_of, drive_party, roles_of}
use Rattle.il_ring.specs.Rounded.{AllTook}
use Rattle.il_ring.proofs.LendHeld.{is_unheld, lend_unheld, none_unheld}
use Rattle.il_control.specs.Calls.{loop_of}
use Rattle.il_control.specs.Lent.{Lends, asked_on}
use Rattle.il_record.specs.Came.{CameBy}
use Rattle.il_record.specs.Talks.{all_entries}
use Rattle.il_script.specs.declared.reply.Reply.{Reply}
use Rattle.host_model.specs.Requests.{Item}
use Rattle.host_model.specs.LoopStates.{all_roles, device_count}
use Rattle.host_model.specs.HostStates.{log_room}
use Rattle.host_model.specs.Next.{BoxedBecome}
use Rattle.host_model.specs.RingStates.{loop_on}
use Rattle.host_model.specs.Steps.{TookFrames, Travels}
use Rattle.host_model.proofs.RingStates.{beside_drive, count_on, host_led, roles_on}
use Rattle.host_model.proofs.Runs.{risen_by-add}
use Rattle.il_host.proofs.CommandTravels.{event_by}

-- The ring r became s by a log of these entries, of which no frame is held at the end.
pub record Went {M : Type 0} (r s : RingView M) (log : List Entry) : Type 0 where
  pub one : OneTalkerLed 0 (roles_of (devices_of r)) log
  pub commands : are_commands_led 0 log ≡ true
  pub roles : roles_of (devices_of s) ≡ roles_led 0 (roles_of (devices_of r)) log
  pub crossings : s.books.crossings ≡ risen_by (sum_by (links_of (length (devices_of r))) log) r.books.crossings
  pub frames : EachBecomes (λ q d e. e.frames ≡ risen_by (count_by (brings_to (length (devices_of r)) q) log) d.frames) 1 (devices_of r) (devices_of s)
  pub unheld : list_all is_unheld log ≡ true
  pub guest : last_asked s.guest ≡ last_asked r.guest
  pub before : length s.before ≡ length r.before
  pub size : length (devices_of s) ≡ length (devices_of r)

-- nothing was sent
pub went_none : {M : Type 0} (r : RingView M) → is_at_most_one (talkers (roles_of (devices_of r))) ≡ true → Went r r []
went_none r one = record {
  one = one;
  commands = refl;
  roles = refl;
  crossings = refl;
  frames = each_same (λ q d e. e.frames ≡ risen_by (count_by (brings_to (length (devices_of r)) q) []) d.frames) (λ q d. refl) 1 (devices_of r);
  unheld = refl;
  guest = refl;
  before = refl;
  size = refl;
}

-- whole exchanges came
stands_unheld : (es : List Entry) → list_all stands es ≡ true → list_all is_unheld es ≡ true
stands_unheld [] all = refl
stands_unheld (e ∷ es) all =
    let parts = and_parts (stands e) (list_all stands es) all in
    and_from (is_unheld e) (list_all is_unheld es) (by e.frame e.outcome (e.source == 0) parts.0) (stands_unheld es parts.1)
  where
    by : (f : Frame) (o : Outcome) (own : Bool) → stands_as f o ≡ true → not (own && (is_frame f nrd && is_lost o)) ≡ true
    by f (outcome.Back g) own so = kept own (is_frame f nrd)
      where
        kept : (own nrds : Bool) → not (own && (nrds && false)) ≡ true
        kept true true = refl
        kept _ _ = refl
    by f (outcome.Taken q) own so = kept own (is_frame f nrd)
      where
        kept : (own nrds : Bool) → not (own && (nrds && false)) ≡ true
        kept true true = refl
        kept _ _ = refl
    by f (outcome.Lost q) own so = cc

took_came : (k : ℕ) (entries : List Entry) (j : ℕ) (ds es : List DeviceState) → AllTook k None entries None j ds es
    → EachBecomes (λ q d e. e.frames ≡ risen_by (count_by (brings_to k q) entries) d.frames) (j + 1) ds es
took_came k entries j [] [] h = tt
took_came k entries j (d ∷ ds) (e ∷ es) h =
    let count : h.0.0 ≡ count_by (brings_to k (j + 1)) entries = let same = h.0.2 in omega (arith, same) in
    (h.0.1 ∙ ap (λ c. risen_by c d.frames) count, took_came k entries (j + 1) ds es h.1)
took_came k entries j [] (e ∷ es) h = absurd h
took_came k entries j (d ∷ ds) [] h = absurd h

pub went_came : {M : Type 0} (view : M → MediumView) (r m : RingView M) (came : CameBy view true r m) → Went r m (all_entries came.pieces)
went_came view r m came =
    let k = length (devices_of r) in
    let entries = all_entries came.pieces in
    let led = host_led (devices_of r) k (drive_party r) entries (record { pieces = came.pieces; legal = came.talked.legal; entries = refl }) came.talked.one in
    let adds = came.talked.adds in
    let stood = whole_stands (loop_of r) came.pieces came.talked.legal came.talked.ends in
    let unheld = stands_unheld entries stood in
    let held : held_at_end None entries ≡ None = none_unheld None entries unheld in
    let crossed : adds.links ≡ sum_by (links_of k) entries = let same = subst (λ o. adds.links + held_links k None ≡ links_so_far k entries o) held adds.linked in omega (arith, same) in
    record {
      one = (OneTalkerLed-no_lend (roles_of (devices_of r)) entries led.none).1 led.one;
      commands = led.commands;
      roles = adds.roles ∙ sym (roles_led-no_lend (roles_of (devices_of r)) entries led.none);
      crossings = adds.crossings ∙ ap (λ n. risen_by n r.books.crossings) crossed;
      frames = took_came k entries 0 (devices_of r) (devices_of m) (subst (λ o. AllTook k None entries o 0 (devices_of r) (devices_of m)) held adds.frames);
      unheld = unheld;
      guest = adds.guest.0;
      before = adds.before;
      size = adds.size;
    }

-- one log, and then another that begins under the host's control
pub went_then : {M : Type 0} (r m s : RingView M) (first second : List Entry) → Went r m first → controller_after 0 first ≡ 0 → Went m s second → Went r s (first ++ second)
went_then r m s first second a stays b =
    let k = length (devices_of r) in
    let rs = roles_of (devices_of r) in
    record {
      one = has_one_talker_led-append 0 rs first second ∙ and_from (has_one_talker_led 0 rs first) _ a.one
          (ap (λ c. has_one_talker_led c (roles_led 0 rs first) second) stays ∙ subst (λ ss. OneTalkerLed 0 ss second) a.roles b.one);
      commands = are_commands_led-append 0 first second ∙ and_from (are_commands_led 0 first) _ a.commands (ap (λ c. are_commands_led c second) stays ∙ b.commands);
      roles = b.roles ∙ ap (λ ss. roles_led 0 ss second) a.roles ∙ ap (λ c. roles_led c (roles_led 0 rs first) second) (sym stays) ∙ sym (roles_led-append 0 rs first second);
      crossings = b.crossings ∙ ap (λ j. risen_by (sum_by (links_of j) second) m.books.crossings) a.size ∙ ap (risen_by (sum_by (links_of k) second)) a.crossings
          ∙ sym (risen_by-add (sum_by (links_of k) first) (sum_by (links_of k) second) r.books.crossings)
          ∙ ap (λ n. risen_by n r.books.crossings) (sym (sums k));
      frames = each_then (λ q d e. e.frames ≡ risen_by (count_by (brings_to k q) first) d.frames) (λ q d e. e.frames ≡ risen_by (count_by (brings_to k q) second) d.frames)
          (λ q d e. e.frames ≡ risen_by (count_by (brings_to k q) (first ++ second)) d.frames)
          (λ q d e f one two. two ∙ ap (risen_by (count_by (brings_to k q) second)) one ∙ sym (risen_by-add (count_by (brings_to k q) first) (count_by (brings_to k q) second) d.frames)
          ∙ ap (λ n. risen_by n d.frames) (sym (counts k q)))
          1 (devices_of r) (devices_of m) (devices_of s) a.frames
          (subst (λ j. EachBecomes (λ q d e. e.frames ≡ risen_by (count_by (brings_to j q) second) d.frames) 1 (devices_of m) (devices_of s)) a.size b.frames);
      unheld = list_all-append is_unheld first second ∙ and_from (list_all is_unheld first) (list_all is_unheld second) a.unheld b.unheld;
      guest = b.guest ∙ a.guest;
      before = b.before ∙ a.before;
      size = b.size ∙ a.size;
    }
  where
    sums : (k : ℕ) → sum_by (links_of k) (first ++ second) ≡ sum_by (links_of k) first + sum_by (links_of k) second
    sums k = let all = links_so_far-append k first second None in omega (arith, all)

    counts : (k q : ℕ) → count_by (brings_to k q) (first ++ second) ≡ count_by (brings_to k q) first + count_by (brings_to k q) second
    counts k q = let all = passes_so_far-append k q first second None in omega (arith, all)

-- ---- a lend

took_each : (k : ℕ) (entries : List Entry) (j : ℕ) (ds es : List DeviceState) → AllTookSince k [] entries j ds es
    → EachBecomes (λ q d e. e.frames ≡ risen_by (count_by (brings_to k q) entries) d.frames) (j + 1) ds es
took_each k entries j [] [] h = tt
took_each k entries j (d ∷ ds) (e ∷ es) h =
    let count : h.0.0 ≡ count_by (brings_to k (j + 1)) entries = let same = h.0.2 in omega (arith, same) in
    (h.0.1 ∙ ap (λ c. risen_by c d.frames) count, took_each k entries (j + 1) ds es h.1)
took_each k entries j [] (e ∷ es) h = absurd h
took_each k entries j (d ∷ ds) [] h = absurd h

pub some_device : {M : Type 0} (r : RingView M) → (length (devices_of r) == 0) ≡ false
some_device r = ne_eqb (length (devices_of r)) 0 (λ none. let all = length-append r.before (device_of r.drive.state ∷ r.after) in omega (arith, none, all))

pub went_lent : {M : Type 0} (a limit : ℕ) (whole : Bool) (m s : RingView M) (lends : Lends a limit whole m s) → Went m s (lend_entries (length (devices_of m)) (asked_on m) lends.lend)
went_lent a limit whole m s lends =
    let k = length (devices_of m) in
    record {
      one = lends.one;
      commands = lends.commands;
      roles = lends.roles;
      crossings = lends.crossings ∙ ap (λ n. risen_by n m.books.crossings) lends.linked;
      frames = took_each k (lend_entries k (asked_on m) lends.lend) 0 (devices_of m) (devices_of s) lends.frames;
      unheld = lend_unheld k (some_device m) (asked_on m) limit lends.lend lends.is;
      guest = lends.kept.last;
      before = lends.kept.before;
      size = lends.size;
    }

-- it counts for the crossings, in the words of the loop
pub went_crossings : {M : Type 0} (r s : RingView M) (log : List Entry) → Went r s log → s.books.crossings ≡ risen_by (links (device_count (loop_on r)) log) r.books.crossings
went_crossings r s log went =
    went.crossings
    ∙ ap (λ n. risen_by n r.books.crossings)
    (links_are (length (devices_of r)) log (none_unheld None log went.unheld) ∙ ap (λ j. links j log) (sym (count_on r)))
  where
    links_are : (k : ℕ) (log : List Entry) → held_at_end None log ≡ None → sum_by (links_of k) log ≡ links k log
    links_are k log held = rw held (omega arith)

-- ---- an event

-- by a log that was empty at first
pub travels_went : {M : Type 0} (view : M → MediumView) (item : Item) (answer : Reply) (was is sound sound_now : Bool) (r s : RingView M) (log : List Entry) → s.books.log ≡ log → Went r s log
    → length s.books.log ≤ log_room (view r.drive.medium).record_count → Travels (event_by view item answer was is sound sound_now r s)
travels_went view item answer was is sound sound_now r s log logged went short =
    let k = length (devices_of r) in
    let held : held_at_end None s.books.log ≡ None = ap (held_at_end None) logged ∙ none_unheld None log went.unheld in
    record {
      one_talker = subst (λ es. OneTalkerLed 0 (all_roles (loop_on r)) es) (sym logged) (subst (λ rs. OneTalkerLed 0 rs log) (sym (roles_on r)) went.one);
      commands = ap (are_commands_led 0) logged ∙ went.commands;
      roles = roles_on s ∙ went.roles ∙ ap (λ rs. roles_led 0 rs log) (sym (roles_on r)) ∙ ap (roles_led 0 (all_roles (loop_on r))) (sym logged);
      crossings = went_crossings r s log went ∙ ap (λ es. risen_by (links (device_count (loop_on r)) es) r.books.crossings) (sym logged);
      frames = subst (λ j. BoxedBecome (TookFrames j s.books.log) (loop_on r) (loop_on s)) (sym (count_on r))
          (beside_drive (TookFrames k s.books.log) (loop_on r) (loop_on s) (device_of r.drive.state) (device_of s.drive.state) went.before
          (each_weaker (λ q d e. e.frames ≡ risen_by (count_by (brings_to k q) log) d.frames) (TookFrames k s.books.log)
          (λ q d e took. took ∙ ap (λ n. risen_by n d.frames) (ap (count_by (brings_to k q)) (sym logged) ∙ sym (passes_are k q s.books.log held))) 1 (devices_of r) (devices_of s) went.frames));
      guest = went.guest;
      short = short;
    }
  where
    passes_are : (k q : ℕ) (log : List Entry) → held_at_end None log ≡ None → passes k q log ≡ count_by (brings_to k q) log
    passes_are k q log held = rw held (omega arith)
