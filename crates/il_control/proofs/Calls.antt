-- Calls one after the other, and single rounds as calls.
use Rattle.std.proofs.Common.{◌≡◌, ◌≤◌, ◌<◌, ◌+◌, ◌-◌, ◌++◌, ◌⊎◌, inl, inr, ⊎_elim, ℕ, zero, suc, Bool, true, false, List, [], ◌∷◌, Option, None, length, refl, sym, ap, ap₂, subst, ◌∙◌, arith, length-append}
use Rattle.std.specs.Prelude.{MatchBool}
use Rattle.std.specs.List.{list_all}
use Rattle.std.proofs.lemmas.Bool.{and_parts}
use Rattle.std.proofs.lemmas.List.Folds.{list_all-append}
use Rattle.loop_model.specs.Hearing.{has_no_data}
use Rattle.il_frames.specs.declared.frame.Frame.{Frame}
use Rattle.il_frames.specs.declared.entry.Entry.{Entry}
use Rattle.il_frames.specs.declared.entry.Outcome.TheVariants as outcome
use Rattle.il_frames.specs.declared.message.Message.{Message}
use Rattle.il_frames.specs.declared.message.Message.TheVariants as msg
use Rattle.il_frames.specs.Messages.{message_of}
use Rattle.il_device.specs.Passing.{is_plain}
use Rattle.il_ports.specs.Media.{MediumView}
use Rattle.loop_model.specs.Reach.{met}
use Rattle.il_frames.specs.NamedFrames.{entry, rfc}
use Rattle.loop_model.specs.Exchanges.{Break, FrameLost, returned, commanded, cut_at, can_cut}
use Rattle.loop_model.proofs.ReachLaws.{met-split}
use Rattle.il_ring.specs.declared.plan.Arrival.{Arrival}
use Rattle.il_ring.specs.declared.plan.Arrival.TheVariants as arrival
use Rattle.il_ring.specs.declared.flight.Flight.{Flight}
use Rattle.il_ring.specs.Plans.{hops_of}
use Rattle.il_ring.specs.Flights.{sourced}
use Rattle.il_ring.specs.Rings.{RingView, IsRing, Round, devices_of, drive_party, spare_of}
use Rattle.il_ring.specs.Outcomes.{met_between, DriveTook, HearsNothing}
use Rattle.il_ring.specs.Adds.{Adds}
use Rattle.il_ring.proofs.Faults.{met_nowhere, risen_by_later}
use Rattle.il_ring.proofs.Adding.{adds_nothing, adds_nothing-came, adds_more, adds_more-came, adds_more-answers}
use Rattle.il_ring.proofs.RoundAdds.{DriveCame, host_adds, host_came, none_new}
use Rattle.il_ring.proofs.RoundCounts.{round_counts}
use Rattle.il_ring.specs.Journeys.{is_exact}
use Rattle.il_ring.proofs.Passing.{Carries, Exactly}
use Rattle.il_ring.proofs.PassKinds.{Is, Any, plain_passes}
use Rattle.il_ring.proofs.EndsHome.{any_each}
use Rattle.il_ring.proofs.DriveRounds.{passed_drive}
use Rattle.il_ring.proofs.PassRounds.{passed_round}
use Rattle.il_ring.proofs.Passes.{PassesOn}
use Rattle.il_ring.specs.Lists.{Each, First}
use Rattle.il_device.specs.State.{DeviceState}
use Rattle.il_drive.specs.State.{device_of}
use Rattle.il_frames.specs.declared.entry.Outcome.{Outcome}
use Rattle.il_ring.proofs.Rings.{IsRing-send}
use Rattle.il_ring.specs.Outcomes.{Obeys}
use Rattle.il_control.specs.Brought.{ComesAs, Brought, CutBrought, is_from_here}
use Rattle.il_control.specs.Calls.{Unheard, Whole, Broke, IsFree, arrives}
use Rattle.il_control.proofs.HeldAtEnd.{cut_held, quiet_parts}
use Rattle.loop_model.specs.Reach.{held_at_end as held_after}
use Rattle.loop_model.proofs.ReachLaws.{sourcing}
use Rattle.il_control.proofs.Brought.{brought_then, cut_brought_first, cut_brought_front, from_here_parts, same_place, may_come, brought_one, cut_brought_one, plain_comes}

-- ---- cuts

-- a cut of the first entries is one of all
pub cut_front : (xs ys : List Entry) (n : ℕ) (b : Break) → can_cut 0 xs n b ≡ true → (cut_at (xs ++ ys) n b ≡ cut_at xs n b) × (can_cut 0 (xs ++ ys) n b ≡ true)
cut_front [] ys n b legal = cc
cut_front (x ∷ xs) ys zero b legal = (refl, legal)
cut_front (x ∷ xs) ys (suc n) b legal = let more = cut_front xs ys n b legal in (ap (λ es. x ∷ es) more.0, more.1)

-- and so is one of the entries after them
pub record CutAfter (xs ys : List Entry) (n : ℕ) (b : Break) : Type 0 where
  pub standing : ℕ
  pub entries : cut_at (xs ++ ys) standing b ≡ xs ++ cut_at ys n b
  pub legal : can_cut 0 (xs ++ ys) standing b ≡ true
  pub brings : (k q : ℕ) (gs hs : List Frame) → Brought k q xs gs → CutBrought k q ys n hs → CutBrought k q (xs ++ ys) standing (gs ++ hs)

pub cut_after : (xs ys : List Entry) (n : ℕ) (b : Break) → can_cut 0 ys n b ≡ true → CutAfter xs ys n b
cut_after [] ys n b legal = record { standing = n; entries = refl; legal = legal; brings = λ k q gs hs first cut. subst (λ gs. CutBrought k q ys n (gs ++ hs)) (sym first) cut }
cut_after (x ∷ xs) ys n b legal =
    let more = cut_after xs ys n b legal in
    record {
      standing = suc more.standing;
      entries = ap (λ es. x ∷ es) more.entries;
      legal = more.legal;
      brings = λ k q gs hs first cut. cut_brought_first k q more.standing x xs ys hs (λ gs first. more.brings k q gs hs first cut) gs first;
    }

-- after all of the first
cut_after_standing : (xs ys : List Entry) (n : ℕ) (b : Break) (legal : can_cut 0 ys n b ≡ true) → (cut_after xs ys n b legal).standing ≡ length xs + n
unfolding cut_after
cut_after_standing [] ys n b legal = omega arith
cut_after_standing (x ∷ xs) ys n b legal = let up : suc (length xs + n) ≡ length (x ∷ xs) + n = omega arith in ap suc (cut_after_standing xs ys n b legal) ∙ up

-- a cut leaves out an entry
pub cut_within : (es : List Entry) (n : ℕ) (b : Break) → can_cut 0 es n b ≡ true → n < length es
cut_within [] n b legal = cc
cut_within (e ∷ es) zero b legal = omega arith
cut_within (e ∷ es) (suc n) b legal = let more = cut_within es n b legal in omega (arith, more)

-- ---- planned hops over calls

-- the crossings go up, and the plan stays
pub met_parts : {M : Type 0} (view : M → MediumView) (r m s : RingView M) (a b c d : Option ℕ) (xs ys : List Entry) → IsRing r → IsRing m → Adds view r a xs b m → Adds view m c ys d s
    → (met_between r s ≡ [] → (met_between r m ≡ []) × (met_between m s ≡ [])) × (((met_between r m ≡ []) × (met_between m s ≡ [])) → met_between r s ≡ [])
met_parts view r m s a b c d xs ys ring ring_m first more =
    let up : r.books.crossings ≤ m.books.crossings = omega (arith, first.crossings, risen_by_later first.links r.books.crossings ring.crossings) in
    let on : m.books.crossings ≤ s.books.crossings = omega (arith, more.crossings, risen_by_later more.links m.books.crossings ring_m.crossings) in
    let split = met-split (hops_of r.books.plan) r.books.crossings m.books.crossings s.books.crossings up on in
    let same : met_between m s ≡ met (hops_of r.books.plan) m.books.crossings s.books.crossings = ap (λ plan. met (hops_of plan) m.books.crossings s.books.crossings) first.plan in
    ((λ none. let parts = split.0 none in (parts.0, same ∙ parts.1)), (λ parts. split.1 (parts.0, sym same ∙ parts.1)))

-- ---- what devices heard

hears_same : (d e : DeviceState) → e ≡ d → HearsNothing d e
hears_same d e same = subst (λ e. HearsNothing d e) (sym same) (record { heard = refl; heard_count = refl; room = refl; accessory = refl })

-- the first n heard nothing, and the others are as they were
heard_nothing : (R : DeviceState → DeviceState → Type 0) → ((d e : DeviceState) → R d e → HearsNothing d e) → (j : ℕ) (ds es : List DeviceState) → First R j ds es → First HearsNothing (length ds) ds es
heard_nothing R hears j [] [] took = tt
heard_nothing R hears zero (d ∷ ds) (e ∷ es) took = (hears_same d e took.0, heard_nothing R hears zero ds es took.1)
heard_nothing R hears (suc j) (d ∷ ds) (e ∷ es) took = (hears d e took.0, heard_nothing R hears j ds es took.1)
heard_nothing R hears j [] (e ∷ es) took = absurd took
heard_nothing R hears j (d ∷ ds) [] took = absurd took

pub hears_then : (c d e : DeviceState) → HearsNothing c d → HearsNothing d e → HearsNothing c e
hears_then c d e first more = record {
  heard = more.heard ∙ first.heard;
  heard_count = more.heard_count ∙ first.heard_count;
  room = more.room ∙ first.room;
  accessory = more.accessory ∙ first.accessory;
}

pub unheard_then : (cs ds es : List DeviceState) → First HearsNothing (length cs) cs ds → First HearsNothing (length ds) ds es → First HearsNothing (length cs) cs es
unheard_then [] [] [] first more = tt
unheard_then (c ∷ cs) (d ∷ ds) (e ∷ es) first more = (hears_then c d e first.0 more.0, unheard_then cs ds es first.1 more.1)
unheard_then [] [] (e ∷ es) first more = absurd more
unheard_then [] (d ∷ ds) es first more = absurd first
unheard_then (c ∷ cs) [] es first more = absurd first
unheard_then (c ∷ cs) (d ∷ ds) [] first more = absurd more

no_data_parts : (xs ys : List Entry) → list_all has_no_data (xs ++ ys) ≡ true → (list_all has_no_data xs ≡ true) × (list_all has_no_data ys ≡ true)
no_data_parts xs ys none = and_parts (list_all has_no_data xs) (list_all has_no_data ys) (sym (list_all-append has_no_data xs ys) ∙ none)

-- ---- one call after the other

pub whole_then : {M : Type 0} (view : M → MediumView) (r m s : RingView M) (xs ys : List Entry) → IsRing r → Whole view r xs m → Whole view m ys s → Whole view r (xs ++ ys) s
whole_then view r m s xs ys ring first more = record {
  adds = adds_more view r m s None None None xs ys first.adds more.adds;
  ring = more.ring;
  held = more.held;
  met_none = (met_parts view r m s None None None None xs ys ring first.ring first.adds more.adds).1 (first.met_none, more.met_none);
  unheard = λ none. let parts = no_data_parts xs ys none in unheard_then (devices_of r) (devices_of m) (devices_of s) (first.unheard parts.0) (more.unheard parts.1);
  brought = λ from.
      let k = length (devices_of r) in
      let q = drive_party r in
      let parts = from_here_parts q xs ys from in
      let after : list_all (is_from_here q) ys ≡ true → Brought k q ys more.adds.came =
      same_place r m (λ k q. list_all (is_from_here q) ys ≡ true → Brought k q ys more.adds.came) first.adds.before first.adds.size more.brought in
      subst (Brought k q (xs ++ ys)) (sym (adds_more-came view r m s None None None xs ys first.adds more.adds)) (brought_then k q xs ys first.adds.came more.adds.came (first.brought parts.0) (after parts.1));
}

-- the frames that came are those of both
pub whole_then_came : {M : Type 0} (view : M → MediumView) (r m s : RingView M) (xs ys : List Entry) (ring : IsRing r) (first : Whole view r xs m) (more : Whole view m ys s) → (whole_then view r m s xs ys ring first more).adds.came ≡ first.adds.came ++ more.adds.came
unfolding whole_then
whole_then_came view r m s xs ys ring first more = adds_more-came view r m s None None None xs ys first.adds more.adds

pub whole_then_answers : {M : Type 0} (view : M → MediumView) (r m s : RingView M) (xs ys : List Entry) (ring : IsRing r) (first : Whole view r xs m) (more : Whole view m ys s) → (whole_then view r m s xs ys ring first more).adds.answers ≡ first.adds.answers ++ more.adds.answers
unfolding whole_then
whole_then_answers view r m s xs ys ring first more = adds_more-answers view r m s None None None xs ys first.adds more.adds

-- what a cut added, what it brought to the drive, and which frames these are
abbrev AddsCut : {M : Type 0} → (M → MediumView) → RingView M → List Entry → ℕ → Option ℕ → RingView M → List Frame → List Entry → Type 0
AddsCut view r entries standing to s came cut =
    (adds : Adds view r None cut to s) × (list_all (is_from_here (drive_party r)) entries ≡ true → CutBrought (length (devices_of r)) (drive_party r) entries standing adds.came) × (adds.came ≡ came)

cut_added_after : {M : Type 0} (view : M → MediumView) (r m s : RingView M) (xs ys : List Entry) (first : Whole view r xs m) (more : Broke view m ys s) (cut : CutAfter xs ys more.standing more.break)
    → AddsCut view r (xs ++ ys) cut.standing more.held_at_end s (first.adds.came ++ more.adds.came) (cut_at (xs ++ ys) cut.standing more.break)
cut_added_after view r m s xs ys first more cut =
    let adds = adds_more view r m s None None more.held_at_end xs (cut_at ys more.standing more.break) first.adds more.adds in
    let k = length (devices_of r) in
    let q = drive_party r in
    let all = adds_more-came view r m s None None more.held_at_end xs (cut_at ys more.standing more.break) first.adds more.adds in
    let after : list_all (is_from_here q) ys ≡ true → CutBrought k q ys more.standing more.adds.came =
    same_place r m (λ k q. list_all (is_from_here q) ys ≡ true → CutBrought k q ys more.standing more.adds.came) first.adds.before first.adds.size more.brought in
    let came : list_all (is_from_here q) (xs ++ ys) ≡ true → CutBrought k q (xs ++ ys) cut.standing adds.came = λ from.
    let parts = from_here_parts q xs ys from in
    subst (CutBrought k q (xs ++ ys) cut.standing) (sym all) (cut.brings k q first.adds.came more.adds.came (first.brought parts.0) (after parts.1)) in
    subst (AddsCut view r (xs ++ ys) cut.standing more.held_at_end s (first.adds.came ++ more.adds.came)) (sym cut.entries) (adds, came, all)

pub broke_after : {M : Type 0} (view : M → MediumView) (r m s : RingView M) (xs ys : List Entry) → IsRing r → Whole view r xs m → Broke view m ys s → Broke view r (xs ++ ys) s
broke_after view r m s xs ys ring first more =
    let cut = cut_after xs ys more.standing more.break more.legal in
    let added = cut_added_after view r m s xs ys first more cut in
    record {
      standing = cut.standing;
      break = more.break;
      legal = cut.legal;
      held_at_end = more.held_at_end;
      told = λ none. more.told (quiet_parts xs ys none).1;
      adds = added.0;
      ring = more.ring;
      held = more.held;
      met_some = λ none. more.met_some ((met_parts view r m s None None None more.held_at_end xs (cut_at ys more.standing more.break) ring first.ring first.adds more.adds).0 none).1;
      unheard = λ none. let parts = no_data_parts xs ys none in unheard_then (devices_of r) (devices_of m) (devices_of s) (first.unheard parts.0) (more.unheard parts.1);
      brought = added.1;
    }

pub broke_after_came : {M : Type 0} (view : M → MediumView) (r m s : RingView M) (xs ys : List Entry) (ring : IsRing r) (first : Whole view r xs m) (more : Broke view m ys s) → (broke_after view r m s xs ys ring first more).adds.came ≡ first.adds.came ++ more.adds.came
unfolding broke_after
broke_after_came view r m s xs ys ring first more = (cut_added_after view r m s xs ys first more (cut_after xs ys more.standing more.break more.legal)).2

-- as many are there
pub broke_after_standing : {M : Type 0} (view : M → MediumView) (r m s : RingView M) (xs ys : List Entry) (ring : IsRing r) (first : Whole view r xs m) (more : Broke view m ys s) → (broke_after view r m s xs ys ring first more).standing ≡ length xs + more.standing
unfolding broke_after
broke_after_standing view r m s xs ys ring first more = cut_after_standing xs ys more.standing more.break more.legal

-- and the break is the same
pub broke_after_break : {M : Type 0} (view : M → MediumView) (r m s : RingView M) (xs ys : List Entry) (ring : IsRing r) (first : Whole view r xs m) (more : Broke view m ys s) → (broke_after view r m s xs ys ring first more).break ≡ more.break
unfolding broke_after
broke_after_break view r m s xs ys ring first more = refl

-- whether a frame was held is read off both, if it is read off the second
pub broke_after_ended : {M : Type 0} (view : M → MediumView) (r m s : RingView M) (xs ys : List Entry) (ring : IsRing r) (first : Whole view r xs m) (more : Broke view m ys s) → more.held_at_end ≡ held_after (sourcing None xs) (cut_at ys more.standing more.break)
    → (broke_after view r m s xs ys ring first more).held_at_end ≡ held_after None (cut_at (xs ++ ys) (broke_after view r m s xs ys ring first more).standing (broke_after view r m s xs ys ring first more).break)
unfolding broke_after
broke_after_ended view r m s xs ys ring first more ended =
    ended ∙ sym (cut_held None xs ys more.standing more.break more.legal) ∙ ap (held_after None) (sym (cut_after xs ys more.standing more.break more.legal).entries)

cut_added_before : {M : Type 0} (view : M → MediumView) (r s : RingView M) (xs ys : List Entry) (broke : Broke view r xs s) → AddsCut view r (xs ++ ys) broke.standing broke.held_at_end s broke.adds.came (cut_at (xs ++ ys) broke.standing broke.break)
cut_added_before view r s xs ys broke =
    let came : list_all (is_from_here (drive_party r)) (xs ++ ys) ≡ true → CutBrought (length (devices_of r)) (drive_party r) (xs ++ ys) broke.standing broke.adds.came = λ from.
    cut_brought_front (length (devices_of r)) (drive_party r) xs ys broke.standing broke.break broke.adds.came broke.legal (broke.brought (from_here_parts (drive_party r) xs ys from).0) in
    subst (AddsCut view r (xs ++ ys) broke.standing broke.held_at_end s broke.adds.came) (sym (cut_front xs ys broke.standing broke.break broke.legal).0) (broke.adds, came, refl)

pub broke_before : {M : Type 0} (view : M → MediumView) (r s : RingView M) (xs ys : List Entry) → Broke view r xs s → Broke view r (xs ++ ys) s
broke_before view r s xs ys broke =
    let cut = cut_front xs ys broke.standing broke.break broke.legal in
    let added = cut_added_before view r s xs ys broke in
    record {
      standing = broke.standing;
      break = broke.break;
      legal = cut.1;
      held_at_end = broke.held_at_end;
      told = λ none. broke.told (quiet_parts xs ys none).0;
      adds = added.0;
      ring = broke.ring;
      held = broke.held;
      met_some = broke.met_some;
      unheard = λ none. broke.unheard (no_data_parts xs ys none).0;
      brought = added.1;
    }

pub broke_before_came : {M : Type 0} (view : M → MediumView) (r s : RingView M) (xs ys : List Entry) (broke : Broke view r xs s) → (broke_before view r s xs ys broke).adds.came ≡ broke.adds.came
unfolding broke_before
broke_before_came view r s xs ys broke = (cut_added_before view r s xs ys broke).2

pub broke_before_standing : {M : Type 0} (view : M → MediumView) (r s : RingView M) (xs ys : List Entry) (broke : Broke view r xs s) → (broke_before view r s xs ys broke).standing ≡ broke.standing
unfolding broke_before
broke_before_standing view r s xs ys broke = refl

pub broke_before_break : {M : Type 0} (view : M → MediumView) (r s : RingView M) (xs ys : List Entry) (broke : Broke view r xs s) → (broke_before view r s xs ys broke).break ≡ broke.break
unfolding broke_before
broke_before_break view r s xs ys broke = refl

pub broke_before_ended : {M : Type 0} (view : M → MediumView) (r s : RingView M) (xs ys : List Entry) (broke : Broke view r xs s) → broke.held_at_end ≡ held_after None (cut_at xs broke.standing broke.break)
    → (broke_before view r s xs ys broke).held_at_end ≡ held_after None (cut_at (xs ++ ys) (broke_before view r s xs ys broke).standing (broke_before view r s xs ys broke).break)
unfolding broke_before
broke_before_ended view r s xs ys broke ended = ended ∙ ap (held_after None) (sym (cut_front xs ys broke.standing broke.break broke.legal).0)

-- whether it was done whole
abbrev pub Done : {M : Type 0} → (M → MediumView) → RingView M → List Entry → Bool → RingView M → Type 0
Done view r entries whole s = MatchBool whole (Whole view r entries s) (Broke view r entries s)

-- ---- a frame that every device passes on

pub plain_exact : (m : Message) → is_plain m ≡ true → is_exact m ≡ true
plain_exact (msg.Dab b) e = cc
plain_exact (msg.Dsr b) e = cc
plain_exact (msg.End b) e = cc
plain_exact (msg.Esr b) e = cc
plain_exact (msg.Idy b) e = cc
plain_exact (msg.Isr b) e = cc
plain_exact _ e = refl

pub each_front : (P : ℕ → DeviceState → Type 0) (k : ℕ) (ds rest : List DeviceState) → Each P k (ds ++ rest) → Each P k ds
each_front P k [] rest each = tt
each_front P k (d ∷ ds) rest each = (each.0, each_front P (k + 1) ds rest each.1)

-- A frame that every device passes on came back whole; or it was lost at a planned hop.
abbrev pub PassEnd : {M : Type 0} → (M → MediumView) → (ℕ → Frame → Type 0) → RingView M → Frame → Arrival → RingView M → Type 0
PassEnd view Q r f answer s = ((g : Frame) × Q (suc (length (devices_of r))) g × (answer ≡ arrival.Frame g) × Whole view r (entry 0 f (outcome.Back g) ∷ []) s)
    ⊎ ((answer ≡ arrival.Lost) × ((o : Outcome) → Broke view r (entry 0 f o ∷ []) s))

-- a frame of the host whose round left none held: what the round added, and what came to the drive
pub host_added : {M : Type 0} (view : M → MediumView) (P : Frame → Type 0) (r s : RingView M) (held : Option Flight) (f : Frame) (answer : Arrival) (o : Outcome) → Carries (message_of f) f → Round view r held (sourced 0 f) answer s
    → s.books.log ≡ r.books.log ++ entry 0 f o ∷ [] → s.books.held ≡ None → DriveTook view P r s → (adds : Adds view r None (entry 0 f o ∷ []) None s) × DriveCame P r s adds.came
host_added view P r s held f answer o carries round log free took =
    let new = none_new r s held (sourced 0 f) answer (round_counts view r s held (sourced 0 f) answer (inl refl) round) free in
    (host_adds view P r s held f answer (entry 0 f o ∷ []) None carries round log new took, host_came view P r s held f answer (entry 0 f o ∷ []) None carries round log new took)

pub pass_call : {M : Type 0} (view : M → MediumView) (Q : ℕ → Frame → Type 0) (P : ℕ → DeviceState → Type 0) (R : DeviceState → DeviceState → Type 0) → PassesOn Q P R → ((d e : DeviceState) → R d e → HearsNothing d e) → (r s : RingView M) (held : Option Flight) (f : Frame) (answer : Arrival)
    → Round view r held (sourced 0 f) answer s → held ≡ None → IsFree r → Each P 1 (devices_of r) → Q 1 f → Carries (message_of f) f → ((g : Frame) → Q (drive_party r) g → ComesAs (drive_party r) f g) → PassEnd view Q r f answer s
pass_call view Q P R passes hears r s held f answer round none free fit is carries comes =
    let fit_before = each_front P 1 r.before (device_of r.drive.state ∷ r.after) fit in
    let passed = passed_round view Q P R passes r s held f answer free.ring.crossings fit is round in
    let took = passed_drive view Q P R passes r s held f answer free.ring.crossings fit_before is round in
    let ring = IsRing-send view r s held f answer round free.ring (inl none) in
    let as_sent : (g : Frame) → Q (1 + length r.before) g → ComesAs (drive_party r) f g = λ g at. let here : 1 + length r.before ≡ drive_party r = omega arith in comes g (subst (λ k. Q k g) here at) in
    ⊎_elim
    (λ end.
    let back = end.3 in
    let held_is = back.held_is ∙ none in
    let added = host_added view (Q (1 + length r.before)) r s held f answer (outcome.Back end.0) carries round back.log held_is took in
    inl (
      end.0,
      end.1,
      back.answer_is,
      record {
        adds = added.0;
        ring = ring;
        held = held_is;
        met_none = back.met_none;
        unheard = λ none. heard_nothing R hears passed.reached (devices_of r) (devices_of s) passed.took;
        brought = λ from. brought_one (Q (1 + length r.before)) r s (length (devices_of r)) (drive_party r) f end.0 added.0.came as_sent back.met_none added.1;
      },
    ))
    (λ lost.
    let added = host_added view (Q (1 + length r.before)) r s held f answer (outcome.Lost lost.party) carries round lost.log lost.held_is took in
    inr (
      lost.answer_is,
      λ o. record {
        standing = 0;
        break = FrameLost lost.party;
        legal = refl;
        held_at_end = None;
        told = λ none. refl;
        adds = added.0;
        ring = ring;
        held = lost.held_is;
        met_some = lost.met_some;
        unheard = λ none. heard_nothing R hears passed.reached (devices_of r) (devices_of s) passed.took;
        brought = λ from. cut_brought_one (Q (1 + length r.before)) r s (length (devices_of r)) (drive_party r) f o added.0.came (λ g at. may_come (drive_party r) f g (as_sent g at)) added.1;
      },
    ))
    passed.end

pub plain_call : {M : Type 0} (view : M → MediumView) (r s : RingView M) (held : Option Flight) (f : Frame) (answer : Arrival) → Round view r held (sourced 0 f) answer s → held ≡ None → IsFree r → is_plain (message_of f) ≡ true → Done view r (returned 0 f ∷ []) (arrives answer) s
plain_call view r s held f answer round none free plain =
    ⊎_elim
    (λ came. subst (λ answer. Done view r (returned 0 f ∷ []) (arrives answer) s) (sym came.2) (subst (λ g. Whole view r (entry 0 f (outcome.Back g) ∷ []) s) came.1 came.3))
    (λ lost. subst (λ answer. Done view r (returned 0 f ∷ []) (arrives answer) s) (sym lost.0) (lost.1 (outcome.Back f)))
    (pass_call view (Is f) Any (Obeys (message_of f)) (plain_passes f plain) (λ d e obeyed. obeyed.nothing) r s held f answer round none free (any_each 1 (devices_of r)) refl (Exactly (plain_exact (message_of f) plain) refl) (λ g same. plain_comes (drive_party r) f g plain same))

-- as an answer shows
pub done_as : {M : Type 0} (view : M → MediumView) (r s : RingView M) (entries : List Entry) (whole told : Bool) → told ≡ whole → Done view r entries whole s → Done view r entries told s
done_as view r s entries whole told same done = subst (λ whole. Done view r entries whole s) (sym same) done

-- one call after another that was done whole
pub done_then : {M : Type 0} (view : M → MediumView) (r m s : RingView M) (xs ys : List Entry) (whole : Bool) → IsRing r → Whole view r xs m → Done view m ys whole s → Done view r (xs ++ ys) whole s
done_then view r m s xs ys true ring first more = whole_then view r m s xs ys ring first more
done_then view r m s xs ys false ring first more = broke_after view r m s xs ys ring first more

-- the room that a call leaves
pub room_after : {M : Type 0} (view : M → MediumView) (r m : RingView M) (xs : List Entry) (more : ℕ) → Whole view r xs m → length xs + more ≤ spare_of r → more ≤ spare_of m
room_after view r m xs more whole room =
    let long : length m.books.log ≡ length r.books.log + length xs = ap length whole.adds.log ∙ length-append r.books.log xs in
    subst (λ n. more ≤ n) (ap₂ (λ a b. a - b) (sym whole.adds.room) (sym long)) (omega (arith, room))

-- a command and the handshake after it
pub command_done : {M : Type 0} (view : M → MediumView) (r m s : RingView M) (f g : Frame) (whole : Bool) → IsRing r → g ≡ rfc → Whole view r (returned 0 f ∷ []) m → Done view m (returned 0 g ∷ []) whole s → Done view r (commanded 0 f) whole s
command_done view r m s f g whole ring is_rfc first more =
    done_then view r m s (returned 0 f ∷ []) (returned 0 rfc ∷ []) whole ring first (subst (λ g. Done view m (returned 0 g ∷ []) whole s) is_rfc more)

-- the command was broken off
pub command_not : {M : Type 0} (view : M → MediumView) (r s : RingView M) (f : Frame) (whole : Bool) → whole ≡ false → Broke view r (returned 0 f ∷ []) s → Done view r (commanded 0 f) whole s
command_not view r s f whole not broke = subst (λ whole. Done view r (commanded 0 f) whole s) (sym not) (broke_before view r s (returned 0 f ∷ []) (returned 0 rfc ∷ []) broke)

-- nothing was done
pub unheard_nothing : {M : Type 0} (r : RingView M) → Unheard r r
unheard_nothing r = heard_nothing (λ d e. HearsNothing d e) (λ d e hears. hears) 0 (devices_of r) (devices_of r) (as_it_was (devices_of r))
  where
    as_it_was : (ds : List DeviceState) → First (λ d e. HearsNothing d e) 0 ds ds
    as_it_was [] = tt
    as_it_was (d ∷ ds) = (refl, as_it_was ds)

pub whole_nothing : {M : Type 0} (view : M → MediumView) (r : RingView M) → IsFree r → Whole view r [] r
whole_nothing view r free = record {
  adds = adds_nothing view r None;
  ring = free.ring;
  held = free.held;
  met_none = met_nowhere (hops_of r.books.plan) r.books.crossings;
  unheard = λ none. unheard_nothing r;
  brought = λ from. adds_nothing-came view r None;
}

-- a command whole, and what was done after it
pub told_then : {M : Type 0} (view : M → MediumView) (r m s : RingView M) (f g : Frame) (rest : List Entry) (whole : Bool) → IsRing r → f ≡ g → Whole view r (commanded 0 f) m → Done view m rest whole s → Done view r (commanded 0 g ++ rest) whole s
told_then view r m s f g rest whole ring is first more = done_then view r m s (commanded 0 g) rest whole ring (subst (λ f. Whole view r (commanded 0 f) m) is first) more

-- the first of two was broken off
pub told_not : {M : Type 0} (view : M → MediumView) (r s : RingView M) (f g : Frame) (rest : List Entry) (whole : Bool) → f ≡ g → whole ≡ false → Broke view r (commanded 0 f) s → Done view r (commanded 0 g ++ rest) whole s
told_not view r s f g rest whole is not broke = subst (λ whole. Done view r (commanded 0 g ++ rest) whole s) (sym not) (broke_before view r s (commanded 0 g) rest (subst (λ f. Broke view r (commanded 0 f) s) is broke))
