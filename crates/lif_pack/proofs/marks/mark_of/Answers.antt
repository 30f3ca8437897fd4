use Rattle.std.proofs.Common.{◌≡◌, ◌≢◌, ◌⊎◌, ◌<◌, ℕ, List, [], inl, inr, length, get_or, sym, ◌∙◌, ap, arith}
use Rattle.std.proofs.lemmas.List.{length-map}
use Rattle.lif_model.specs.declared.version.Version.TheVariants.{Two}
use Rattle.lif_model.specs.Volume.{is_redo_entry}
use Rattle.lif_model.specs.Fit.{redo_place}
use Rattle.lif_dir.specs.Entries.{entry_bytes, slot_bytes}
use Rattle.lif_model.specs.Packing.{redo_slot, marked_slot, marked_count}
use Rattle.lif_pack.proofs.Marking.{not_marked, marked_some}
use Rattle.lif_pack.proofs.marks.mark_of.Goals.{else-number-eq0-via-then-number-eq0+else-moved-eq0, else-number-eq0-via-else-number-eq0}
use Rattle.lif_pack.proofs.marks.mark_of.Goals as goal

pub returns-then-redo-len-clause-mark : goal.returns-then-redo-len-clause-mark
returns-then-redo-len-clause-mark c v is same =
    not_marked c.args.size v is (λ lt. absurd (omega (
      arith,
      lt,
      c.redo_place-redo.ensures.value,
      c.len.ensures.count,
      c.if-redo-len.true,
      ap redo_place same,
      ap (λ (xs : List (List ℕ)). length xs) same,
      length-map c.args.slots.now.slots slot_bytes,
    )))

pub returns-then-not-is_redo_entry-clause-mark : goal.returns-then-not-is_redo_entry-clause-mark
returns-then-not-is_redo_entry-clause-mark c v is same =
    let at : c.redo_place-redo.result ≡ redo_place v.slots = c.redo_place-redo.ensures.value ∙ sym (ap redo_place same) in
    let entry : entry_bytes c.entry.result.now ≡ redo_slot v = c.entry.ensures ∙ (λ i. get_or (sym same i) (at i) []) in
    not_marked c.args.size v is (λ lt. sym (ap (is_redo_entry c.args.size Two) entry) ∙ sym c.if-not-is_redo_entry.ensures)

pub returns-clause-mark : goal.returns-clause-mark
returns-clause-mark c v is same =
    let at : c.redo_place-redo.result ≡ redo_place v.slots = c.redo_place-redo.ensures.value ∙ sym (ap redo_place same) in
    let entry : entry_bytes c.entry.result.now ≡ redo_slot v = c.entry.ensures ∙ (λ i. get_or (sym same i) (at i) []) in
    let bytes = c.bytes-bytes.ensures.bytes ∙ entry in
    let number : marked_slot (redo_slot v) ≡ c.two_at-number.result = sym (c.two_at-number.ensures ∙ ap marked_slot bytes) in
    let moved : marked_count (redo_slot v) ≡ c.two_at-moved.result = sym (c.two_at-moved.ensures ∙ ap marked_count bytes) in
    let within : redo_place v.slots < length v.slots = omega (
      arith,
      at,
      c.redo_place-redo.ensures.within,
      c.len.ensures.count,
      c.if-redo-len.false,
      ap (λ (xs : List (List ℕ)). length xs) same,
      length-map c.args.slots.now.slots slot_bytes,
    ) in
    let some : (marked_slot (redo_slot v) ≢ 0) ⊎ (marked_count (redo_slot v) ≢ 0) = elim c.else-number-eq0.branch [
      | else-number-eq0-via-then-number-eq0+else-moved-eq0 w ↦ inr (λ e. absurd (omega (arith, e, moved, w.if-moved-eq0.false)))
      | else-number-eq0-via-else-number-eq0 w ↦ inl (λ e. absurd (omega (arith, e, number, w.if-number-eq0.false)))
    ] in (
      marked_some c.args.size v within (sym (ap (is_redo_entry c.args.size Two) entry) ∙ sym c.if-not-is_redo_entry.ensures) some,
      at,
      sym number,
      sym moved,
    )
