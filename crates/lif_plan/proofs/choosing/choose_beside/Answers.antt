use Rattle.std.proofs.Common.{◌≡◌, ◌<◌, ◌≤◌, ◌+◌, [], ℕ, List, true, ◌&&◌, not, if◌then◌else◌, max, length, map, get_or, sym, ap, ◌∙◌, arith}
use Rattle.std.proofs.lemmas.Bool.{and_parts, not-true}
use Rattle.std.proofs.lemmas.List.{length-map}
use Rattle.lif_model.specs.Directory.{is_purged}
use Rattle.lif_model.specs.Legal.{is_live, has_records, end_of}
use Rattle.lif_model.specs.Fit.{At, redo_place, low_of}
use Rattle.lif_model.proofs.Plain.{fit_goes_on, fit_found}
use Rattle.lif_dir.specs.Entries.{slot_bytes, entry_bytes}
use Rattle.lif_plan.proofs.Walk.{may_take, not_taken, purged_is, room_before, starts_low, greatest_next}
use Rattle.lif_plan.proofs.choosing.choose_beside.Goals as goal
use Rattle.lif_plan.proofs.choosing.choose_beside.Goals.{then-may_take+else-is_free, else-may_take}

pub overflow_cast-result-then-is_free : goal.overflow_cast-result-then-is_free
overflow_cast-result-then-is_free c =
    omega (arith, starts_low c.loop-k.low c.from-count.result c.from-gate.result _ (omega arith) (sym c.is_free.ensures ∙ c.if-is_free.true))

pub returns-then-is_free : goal.returns-then-is_free
returns-then-is_free c =
    let bytes : List (List ℕ) = map slot_bytes c.args.slots.now.slots in
    let within : c.redo_place-redo.result ≤ length bytes = omega (arith, length-map c.args.slots.now.slots slot_bytes) in
    let before : c.loop-k.k < redo_place bytes = omega (arith, c.redo_place-redo.ensures.value) in
    let both = and_parts (not (is_live (entry_bytes c.entry-entry.result.now))) (may_take c.args.barred.now c.loop-k.k) (sym c.may_take.ensures ∙ c.if-may_take.true) in
    let purged : is_purged (get_or bytes c.loop-k.k []) ≡ true = sym (ap is_purged c.entry-entry.ensures) ∙ purged_is _ (not-true _ both.0) in
    let ends : c.loop-k.low + c.from-count.result ≡ low_of c.args.directory_end bytes c.loop-k.k + c.args.count = omega (arith, c.loop-k.invariant.low) in
    let room = room_before c.args.size c.args.directory_end c.args.count _ c.from-gate.result c.loop-k.k bytes before ends (omega arith) in
    ap (At c.loop-k.k) c.loop-k.invariant.low
    ∙ fit_found c.args.size c.args.directory_end bytes (may_take c.args.barred.now) c.args.count c.redo_place-redo.result c.loop-k.k _ _ c.loop-k.seen c.loop-k-test.true within purged both.1
    (sym room ∙ sym c.is_free.ensures ∙ c.if-is_free.true) c.loop-k.invariant.rest

pub loop-k-preserved : goal.loop-k-preserved
loop-k-preserved c =
    let bytes : List (List ℕ) = map slot_bytes c.args.slots.now.slots in
    let within : c.redo_place-redo.result ≤ length bytes = omega (arith, length-map c.args.slots.now.slots slot_bytes) in
    let before : c.loop-k.k < redo_place bytes = omega (arith, c.redo_place-redo.ensures.value) in
    let ends : c.loop-k.low + c.from-count.result ≡ low_of c.args.directory_end bytes c.loop-k.k + c.args.count = omega (arith, c.loop-k.invariant.low) in
    let room = room_before c.args.size c.args.directory_end c.args.count _ c.from-gate.result c.loop-k.k bytes before ends (omega arith) in
    let next = greatest_next c.args.directory_end c.loop-k.k bytes (entry_bytes c.entry-entry.result.now) (omega (arith, within)) c.entry-entry.ensures in
    record {
      low = c.raised-low.ensures.value
          ∙ (λ i. if has_records (entry_bytes c.entry-entry.result.now) then max (c.loop-k.invariant.low i) (end_of (entry_bytes c.entry-entry.result.now)) else c.loop-k.invariant.low i) ∙ sym next;
      bound = c.raised-low.ensures.bound c.loop-k.invariant.bound;
      rest = elim c.if-may_take.branch [
        | then-may_take+else-is_free w ↦
            let both = and_parts (not (is_live (entry_bytes c.entry-entry.result.now))) (may_take c.args.barred.now c.loop-k.k) (sym c.may_take.ensures ∙ w.if-may_take.true) in
            let purged : is_purged (get_or bytes c.loop-k.k []) ≡ true = sym (ap is_purged c.entry-entry.ensures) ∙ purged_is _ (not-true _ both.0) in
            rw w.seen-is (fit_goes_on c.args.size c.args.directory_end bytes (may_take c.args.barred.now) c.args.count c.redo_place-redo.result c.loop-k.k _ _ c.loop-k.seen c.loop-k-test.true within purged both.1
            (sym room ∙ sym w.is_free.ensures ∙ w.if-is_free.false) c.loop-k.invariant.rest)
        | else-may_take w ↦
            let slot : get_or bytes c.loop-k.k [] ≡ entry_bytes c.entry-entry.result.now = sym c.entry-entry.ensures in
            let off = sym c.may_take.ensures ∙ w.if-may_take.false in
            rw w.seen-is (not_taken c.args.size c.args.directory_end bytes c.args.barred.now c.args.count c.redo_place-redo.result c.loop-k.k _ _ c.loop-k.seen c.loop-k-test.true within
            (ap (λ (s : List ℕ). not (is_live s) && may_take c.args.barred.now c.loop-k.k) slot ∙ off) c.loop-k.invariant.rest)
      ];
    }

pub overflow_cast-result-then-is_free-2-2 : goal.overflow_cast-result-then-is_free-2-2
overflow_cast-result-then-is_free-2-2 c =
    omega (arith, starts_low c.loop-k.low c.from-count.result c.from-gate.result _ (omega arith) (sym c.is_free-2.ensures ∙ c.if-is_free-2.true))
