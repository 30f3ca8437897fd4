use Rattle.std.proofs.Common.{◌≡◌, ◌<◌, ℕ, List, [], true, false, if◌then◌else◌, Some, None, length, get_or, sym, ◌∙◌, ap, arith}
use Rattle.std.proofs.lemmas.List.{length-map}
use Rattle.lif_model.specs.declared.version.Version.TheVariants.{One, Two}
use Rattle.lif_model.specs.declared.refusal.Refusal.{Refusal}
use Rattle.lif_model.specs.declared.refusal.Refusal.TheVariants.{NoRedo, NeedsUpgrade, OutOfOrder}
use Rattle.lif_model.specs.Volume.{is_redo_entry}
use Rattle.lif_model.specs.Fit.{redo_place}
use Rattle.lif_dir.specs.Entries.{entry_bytes, slot_bytes}
use Rattle.lif_model.specs.Packing.{is_in_order, redo_slot}
use Rattle.lif_pack.proofs.Refused.{refused_without, refused_old, refused_by_order}
use Rattle.lif_pack.proofs.refusing.refusal_of.Goals as goal

pub returns-then-redo-len-clause-refusal : goal.returns-then-redo-len-clause-refusal
returns-then-redo-len-clause-refusal c v is same = sym (refused_without c.args.size v is (omega (
  arith,
  c.redo_place-redo.ensures.value,
  c.len.ensures.count,
  c.if-redo-len.true,
  ap redo_place same,
  ap (λ (xs : List (List ℕ)). length xs) same,
  length-map c.args.slots.now.slots slot_bytes,
)))

pub returns-then-not-is_redo_entry-clause-refusal : goal.returns-then-not-is_redo_entry-clause-refusal
returns-then-not-is_redo_entry-clause-refusal c v is same =
    let at : c.redo_place-redo.result ≡ redo_place v.slots = c.redo_place-redo.ensures.value ∙ sym (ap redo_place same) in
    let entry : entry_bytes c.entry-entry.result.now ≡ redo_slot v = c.entry-entry.ensures ∙ (λ i. get_or (sym same i) (at i) []) in
    let lt : redo_place v.slots < length v.slots = omega (arith, at, c.redo_place-redo.ensures.within, c.len.ensures.count, c.if-redo-len.false, ap (λ (xs : List (List ℕ)). length xs) same, length-map c.args.slots.now.slots slot_bytes) in
    let two : is_redo_entry c.args.size Two (redo_slot v) ≡ false = sym (ap (is_redo_entry c.args.size Two) entry) ∙ sym c.if-not-is_redo_entry.ensures in
    ap (λ (r : Refusal). Some r) c.other_redo.ensures ∙ ap (λ (e : List ℕ). Some (if is_redo_entry c.args.size One e then NeedsUpgrade else NoRedo)) entry
    ∙ sym (refused_old c.args.size v is lt two)

pub returns-then-not-is_in_order-clause-refusal : goal.returns-then-not-is_in_order-clause-refusal
returns-then-not-is_in_order-clause-refusal c v is same =
    let at : c.redo_place-redo.result ≡ redo_place v.slots = c.redo_place-redo.ensures.value ∙ sym (ap redo_place same) in
    let entry : entry_bytes c.entry-entry.result.now ≡ redo_slot v = c.entry-entry.ensures ∙ (λ i. get_or (sym same i) (at i) []) in
    let lt : redo_place v.slots < length v.slots = omega (arith, at, c.redo_place-redo.ensures.within, c.len.ensures.count, c.if-redo-len.false, ap (λ (xs : List (List ℕ)). length xs) same, length-map c.args.slots.now.slots slot_bytes) in
    let two : is_redo_entry c.args.size Two (redo_slot v) ≡ true = sym (ap (is_redo_entry c.args.size Two) entry) ∙ sym c.if-not-is_redo_entry.ensures in
    let order : is_in_order v.slots ≡ false = ap is_in_order same ∙ sym c.if-not-is_in_order.ensures.order in
    sym (refused_by_order c.args.size v is lt two ∙ ap (λ b. if b then None else Some OutOfOrder) order)

pub returns-clause-refusal : goal.returns-clause-refusal
returns-clause-refusal c v is same =
    let at : c.redo_place-redo.result ≡ redo_place v.slots = c.redo_place-redo.ensures.value ∙ sym (ap redo_place same) in
    let entry : entry_bytes c.entry-entry.result.now ≡ redo_slot v = c.entry-entry.ensures ∙ (λ i. get_or (sym same i) (at i) []) in
    let lt : redo_place v.slots < length v.slots = omega (arith, at, c.redo_place-redo.ensures.within, c.len.ensures.count, c.if-redo-len.false, ap (λ (xs : List (List ℕ)). length xs) same, length-map c.args.slots.now.slots slot_bytes) in
    let two : is_redo_entry c.args.size Two (redo_slot v) ≡ true = sym (ap (is_redo_entry c.args.size Two) entry) ∙ sym c.if-not-is_redo_entry.ensures in
    let order : is_in_order v.slots ≡ true = ap is_in_order same ∙ sym c.if-not-is_in_order.ensures.order in
    sym (refused_by_order c.args.size v is lt two ∙ ap (λ b. if b then None else Some OutOfOrder) order)
