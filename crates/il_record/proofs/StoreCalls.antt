-- What the calls of a store over the loop keep: the log since it was emptied, the list of transfers, and the counts.
use Rattle.std.proofs.Common.{inr, ⊎_elim, ◌≡◌, ◌≢◌, ◌∙◌, ◌≤◌, ◌+◌, ◌*◌, ◌++◌, ◌&&◌, ℕ, Bool, true, false, List, [], ◌∷◌, None, length, map, refl, sym, ap, ap₂, subst, arith}
use Rattle.std.specs.List.{list_all}
use Rattle.std.proofs.lemmas.Bool.{and_from}
use Rattle.std.proofs.lemmas.Grind.{flat_map-append}
use Rattle.std.proofs.lemmas.List.{map-append}
use Rattle.std.proofs.lemmas.List.Folds.{list_all-append}
use Rattle.lif_model.specs.Causes.{Rose}
use Rattle.lif_model.specs.Transfers.{Transfer}
use Rattle.il_ports.specs.Media.{MediumView}
use Rattle.il_drive.specs.State.{status_of}
use Rattle.loop_model.specs.Effect.{UnitsEffect, is_good, transfer_of, all_good, Transferred}
use Rattle.loop_model.specs.Exchanges.{Piece, is_piece, piece_entries}
use Rattle.loop_model.specs.Reach.{met}
use Rattle.loop_model.specs.Units.{RecordUnit, units_of, ends_within}
use Rattle.loop_model.proofs.EffectLaws.{units_of-append, UnitsEffect-append, ends_within-append}
use Rattle.loop_model.proofs.ReachLaws.{length-met}
use Rattle.il_ring.specs.Outcomes.{met_between}
use Rattle.il_ring.specs.Plans.{hops_of}
use Rattle.il_ring.specs.Rings.{RingView, IsRing, drive_party, spare_of}
use Rattle.il_ring.proofs.Faults.{risen_by_later}
use Rattle.il_control.specs.Calls.{IsFree, loop_of}
use Rattle.il_record.specs.declared.records.Since.{Since}
use Rattle.il_record.specs.declared.records.Since.TheVariants as since
use Rattle.il_record.specs.Came.{OnlyHeard, CameBy, CameUnits}
use Rattle.il_record.specs.LoopStores.{CameBad, CameGood, Stood, StoodBy, calls_in, crossed_hops, is_broken, since_frame, since_medium, since_said}
use Rattle.il_record.specs.Talks.{Talked, all_entries}
use Rattle.il_record.proofs.HeardLogs.{heard_then}
use Rattle.il_record.proofs.Talks.{talked_then, same_loop}

-- ---- one after the other

loops : {M : Type 0} (view : M → MediumView) (whole : Bool) (ps : List Piece) (r s : RingView M) → Talked view whole ps r s → loop_of s ≡ loop_of r
loops view whole ps r s talked = same_loop view r s None _ (all_entries ps) talked.adds

module _ {M : Type 0} (view : M → MediumView) (whole : Bool) (r m s : RingView M) (free : IsFree r) (first : CameBy view true r m) (more : CameBy view whole m s) where
  same : loop_of m ≡ loop_of r
  same = loops view true first.pieces r m first.talked

  units_join : units_of (loop_of r) (first.pieces ++ more.pieces) ≡ units_of (loop_of r) first.pieces ++ units_of (loop_of m) more.pieces
  units_join = units_of-append (loop_of r) first.pieces more.pieces first.outside ∙ ap (λ l. units_of (loop_of r) first.pieces ++ units_of l more.pieces) (sym same)

  pub came_then : CameBy view whole r s
  came_then = record {
    pieces = first.pieces ++ more.pieces;
    talked = talked_then view whole first.pieces more.pieces r m s free first.talked more.talked;
    outside = ends_within-append (loop_of r) first.pieces more.pieces first.outside (ap (λ l. ends_within l more.pieces) (sym same) ∙ more.outside);
    effect = λ t told.
        let u = first.effect t told in
        let w = more.effect u.0 u.1 in
        (w.0, w.1, subst (λ us. UnitsEffect us t w.0) (sym units_join) ((UnitsEffect-append (units_of (loop_of r) first.pieces) (units_of (loop_of m) more.pieces) t w.0).1 (u.0, u.2, w.2)));
  }

  pub came_then_units : units_of (loop_of r) came_then.pieces ≡ units_of (loop_of r) first.pieces ++ units_of (loop_of m) more.pieces
  unfolding came_then
  came_then_units = units_join

  pub good_then : (good other : Bool) → all_good (units_of (loop_of r) first.pieces) ≡ good → all_good (units_of (loop_of m) more.pieces) ≡ other → all_good (units_of (loop_of r) came_then.pieces) ≡ (good && other)
  good_then good other one two = ap all_good came_then_units ∙ list_all-append (λ (u : RecordUnit). is_good u.status) (units_of (loop_of r) first.pieces) (units_of (loop_of m) more.pieces) ∙ ap₂ (λ a b. a && b) one two

-- the party of the drive stays
party_stays : {M : Type 0} (view : M → MediumView) (whole : Bool) (r s : RingView M) → CameBy view whole r s → drive_party s ≡ drive_party r
party_stays view whole r s came = ap (λ n. n + 1) came.talked.adds.before

-- ---- what stood

heard : {M : Type 0} (view : M → MediumView) (start r s : RingView M) → OnlyHeard (drive_party start) start r → OnlyHeard (drive_party r) r s → CameBy view true start r → OnlyHeard (drive_party start) start s
heard view start r s before unheard came = heard_then (drive_party start) start r s before (subst (λ d. OnlyHeard d r s) (party_stays view true start r came) unheard)

-- After exchanges, or after nothing: units that all have status 0, where the medium did not fail, or one that has another.
module _ {M : Type 0} (view : M → MediumView) (us : List RecordUnit) (start r s : RingView M) (free : IsFree start) (units : CameUnits view true us r s) where
  good_good : all_good us ≡ true → (view s.drive.medium).faults ≡ (view r.drive.medium).faults → CameGood view start r → CameGood view start s
  good_good good count so = record {
    came = came_then view true start r s free so.came units.came;
    good = good_then view true start r s free so.came units.came true true so.good (ap all_good units.are ∙ good);
    count = count ∙ so.count;
  }

  good_bad : all_good us ≡ false → status_of s.drive.state ≡ 0 → CameGood view start r → CameBad view start s
  good_bad bad told so = record { came = came_then view true start r s free so.came units.came; bad = good_then view true start r s free so.came units.came true false so.good (ap all_good units.are ∙ bad); told = told }

  bad_any : (good : Bool) → all_good us ≡ good → status_of s.drive.state ≡ 0 → CameBad view start r → CameBad view start s
  bad_any good is told so = record { came = came_then view true start r s free so.came units.came; bad = good_then view true start r s free so.came units.came false good so.bad (ap all_good units.are ∙ is); told = told }

  first_good : all_good us ≡ true → (view s.drive.medium).faults ≡ (view r.drive.medium).faults → r ≡ start → CameGood view start s
  first_good good count same = subst (λ (r : RingView M). CameGood view r s) same (record { came = units.came; good = ap all_good units.are ∙ good; count = count })

  first_bad : all_good us ≡ false → status_of s.drive.state ≡ 0 → r ≡ start → CameBad view start s
  first_bad bad told same = subst (λ (r : RingView M). CameBad view r s) same (record { came = units.came; bad = ap all_good units.are ∙ bad; told = told })

first_heard : {M : Type 0} (start r s : RingView M) → r ≡ start → OnlyHeard (drive_party r) r s → OnlyHeard (drive_party start) start s
first_heard {M} start r s same unheard = subst (λ (r : RingView M). OnlyHeard (drive_party r) r s) same unheard

-- Exchanges whose units all have status 0. The medium did not fail, and a status of 0 stays.
pub stood_whole : {M : Type 0} (view : M → MediumView) (log : Since) (us : List RecordUnit) (start r s : RingView M) → Stood view log start r → is_broken log ≡ false → CameUnits view true us r s → all_good us ≡ true → OnlyHeard (drive_party r) r s
    → (view s.drive.medium).faults ≡ (view r.drive.medium).faults → (status_of r.drive.state ≡ 0 → status_of s.drive.state ≡ 0) → Stood view log start s
stood_whole view since.Unbroken us start r s stood alive units good unheard count told = ⊎_elim
    (λ same. record { free = stood.free; unheard = λ none. first_heard start r s same unheard; by = inr (first_good view us start r s stood.free units good count same) })
    (λ so. record { free = stood.free; unheard = λ none. heard view start r s (stood.unheard refl) unheard so.came; by = inr (good_good view us start r s stood.free units good count so) })
    stood.by
stood_whole view since.Failed us start r s stood alive units good unheard count told = record {
  free = stood.free;
  unheard = λ none. heard view start r s (stood.unheard refl) unheard stood.by.came;
  by = bad_any view us start r s stood.free units true good (told stood.by.told) stood.by;
}
stood_whole view since.Said us start r s stood alive units good unheard count told = record { free = stood.free; unheard = λ none. cc; by = came_then view true start r s stood.free stood.by units.came }
stood_whole view since.Mended us start r s stood alive units good unheard count told = absurd stood.by
stood_whole view _ us start r s stood alive units good unheard count told = cc

-- a unit that has another status, which the drive told
pub stood_medium : {M : Type 0} (view : M → MediumView) (log : Since) (us : List RecordUnit) (start r s : RingView M) → Stood view log start r → is_broken log ≡ false → CameUnits view true us r s → all_good us ≡ false → OnlyHeard (drive_party r) r s
    → status_of s.drive.state ≡ 0 → Stood view (since_medium log) start s
stood_medium view since.Unbroken us start r s stood alive units bad unheard told = ⊎_elim
    (λ same. record { free = stood.free; unheard = λ none. first_heard start r s same unheard; by = first_bad view us start r s stood.free units bad told same })
    (λ so. record { free = stood.free; unheard = λ none. heard view start r s (stood.unheard refl) unheard so.came; by = good_bad view us start r s stood.free units bad told so })
    stood.by
stood_medium view since.Failed us start r s stood alive units bad unheard told = record {
  free = stood.free;
  unheard = λ none. heard view start r s (stood.unheard refl) unheard stood.by.came;
  by = bad_any view us start r s stood.free units false bad told stood.by;
}
stood_medium view since.Said us start r s stood alive units bad unheard told = record { free = stood.free; unheard = λ none. cc; by = came_then view true start r s stood.free stood.by units.came }
stood_medium view since.Mended us start r s stood alive units bad unheard told = absurd stood.by
stood_medium view _ us start r s stood alive units bad unheard told = cc

-- an exchange that was broken off
pub stood_frame : {M : Type 0} (view : M → MediumView) (log : Since) (start r s : RingView M) → Stood view log start r → is_broken log ≡ false → CameBy view false r s → OnlyHeard (drive_party r) r s → Stood view (since_frame log) start s
stood_frame {M} view since.Unbroken start r s stood alive came unheard = ⊎_elim
    (λ same. subst (λ (r : RingView M). IsFree r → Stood view since.Broken r s) same (λ free. record { free = free; unheard = λ none. unheard; by = came }) stood.free)
    (λ so. record { free = stood.free; unheard = λ none. heard view start r s (stood.unheard refl) unheard so.came; by = came_then view false start r s stood.free so.came came })
    stood.by
stood_frame view since.Failed start r s stood alive came unheard = record { free = stood.free; unheard = λ none. heard view start r s (stood.unheard refl) unheard stood.by.came; by = came_then view false start r s stood.free stood.by.came came }
stood_frame view since.Said start r s stood alive came unheard = record { free = stood.free; unheard = λ none. cc; by = came_then view false start r s stood.free stood.by came }
stood_frame view since.Mended start r s stood alive came unheard = absurd stood.by
stood_frame view _ start r s stood alive came unheard = cc

-- bytes for another device, sent whole or in part
said_by : {M : Type 0} (view : M → MediumView) (whole : Bool) (start r s : RingView M) → IsFree start → StoodBy view since.Unbroken start r → CameBy view whole r s → CameBy view whole start s
said_by {M} view whole start r s free by came = ⊎_elim (λ same. subst (λ (r : RingView M). CameBy view whole r s) same came) (λ so. came_then view whole start r s free so.came came) by

pub stood_said : {M : Type 0} (view : M → MediumView) (log : Since) (start r s : RingView M) → Stood view log start r → is_broken log ≡ false → CameBy view true r s → Stood view (since_said log) start s
stood_said view since.Unbroken start r s stood alive came = record { free = stood.free; unheard = λ none. cc; by = said_by view true start r s stood.free stood.by came }
stood_said view since.Failed start r s stood alive came = record { free = stood.free; unheard = λ none. cc; by = came_then view true start r s stood.free stood.by.came came }
stood_said view since.Said start r s stood alive came = record { free = stood.free; unheard = λ none. cc; by = came_then view true start r s stood.free stood.by came }
stood_said view since.Mended start r s stood alive came = absurd stood.by
stood_said view _ start r s stood alive came = cc

pub stood_not_said : {M : Type 0} (view : M → MediumView) (log : Since) (start r s : RingView M) → Stood view log start r → is_broken log ≡ false → CameBy view false r s → Stood view (since_frame (since_said log)) start s
stood_not_said view since.Unbroken start r s stood alive came = record { free = stood.free; unheard = λ none. cc; by = said_by view false start r s stood.free stood.by came }
stood_not_said view since.Failed start r s stood alive came = record { free = stood.free; unheard = λ none. cc; by = came_then view false start r s stood.free stood.by.came came }
stood_not_said view since.Said start r s stood alive came = record { free = stood.free; unheard = λ none. cc; by = came_then view false start r s stood.free stood.by came }
stood_not_said view since.Mended start r s stood alive came = absurd stood.by
stood_not_said view _ start r s stood alive came = cc

-- ---- the list of transfers

pub transferred_then : {M : Type 0} (view : M → MediumView) (whole : Bool) (us : List RecordUnit) (r s : RingView M) (list : List Transfer) → CameUnits view whole us r s → all_good us ≡ true → Transferred (loop_of r) r.books.log list → Transferred (loop_of s) s.books.log (list ++ map transfer_of us)
transferred_then view whole us r s list units good old =
    let came = units.came in
    let same_loops = loops view whole came.pieces r s came.talked in
    let l = loop_of r in
    let ps = old.reading.pieces in
    let qs = came.pieces in
    let joined : units_of l (ps ++ qs) ≡ units_of l ps ++ us = units_of-append l ps qs old.outside ∙ ap (λ us. units_of l ps ++ us) units.are in
    let new : Transferred l s.books.log (list ++ map transfer_of us) = record {
      reading = record {
        pieces = ps ++ qs;
        legal = list_all-append (is_piece l) ps qs ∙ and_from (list_all (is_piece l) ps) (list_all (is_piece l) qs) old.reading.legal came.talked.legal;
        entries = came.talked.adds.log ∙ ap (λ log. log ++ all_entries qs) old.reading.entries ∙ sym (flat_map-append (piece_entries 0) ps qs);
      };
      outside = ends_within-append l ps qs old.outside came.outside;
      good = ap all_good joined ∙ list_all-append (λ (u : RecordUnit). is_good u.status) (units_of l ps) us ∙ ap₂ (λ a b. a && b) old.good good;
      are = ap (map transfer_of) joined ∙ map-append transfer_of (units_of l ps) us ∙ ap (λ list. list ++ map transfer_of us) old.are;
    } in
    subst (λ l. Transferred l s.books.log (list ++ map transfer_of us)) (sym same_loops) new

-- ---- planned hops

crossed_more : {M : Type 0} (view : M → MediumView) (whole : Bool) (ps : List Piece) (r s : RingView M) → IsRing r → Talked view whole ps r s → crossed_hops s ≡ crossed_hops r + length (met_between r s)
crossed_more view whole ps r s ring talked =
    let adds = talked.adds in
    let up : r.books.crossings ≤ s.books.crossings = omega (arith, adds.crossings, risen_by_later adds.links r.books.crossings ring.crossings) in
    ap (λ plan. length (met (hops_of plan) 0 s.books.crossings)) adds.plan ∙ length-met (hops_of r.books.plan) 0 r.books.crossings s.books.crossings (omega arith) up

pub frames_same : {M : Type 0} (view : M → MediumView) (ps : List Piece) (r s : RingView M) → IsRing r → Talked view true ps r s → crossed_hops s ≡ crossed_hops r
frames_same view ps r s ring talked = let more = crossed_more view true ps r s ring talked in let none = ap (λ met. length met) talked.met in omega (arith, more, none)

some_met : (hops : List ℕ) → hops ≢ [] → 1 ≤ length hops
some_met [] some = absurd (some refl)
some_met (h ∷ hops) some = omega arith

pub frames_rose : {M : Type 0} (view : M → MediumView) (ps : List Piece) (r s : RingView M) → IsRing r → Talked view false ps r s → Rose (crossed_hops r) (crossed_hops s)
frames_rose view ps r s ring talked =
    let more = crossed_more view false ps r s ring talked in
    let some = some_met (met_between r s) talked.met in
    record { later = omega (arith, more, some); risen = omega (arith, more, some) }

-- ---- room

pub calls_less : {M : Type 0} (k n : ℕ) (r s : RingView M) → spare_of r ≤ spare_of s + n → n ≤ 300 * k → calls_in (spare_of r) ≤ calls_in (spare_of s) + k
calls_less k n r s used few = omega (arith, used, few)
