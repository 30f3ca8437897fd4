use Rattle.std.proofs.Common.{◌≡◌, ℕ, List, [], map, get_or, inl, inr, sym, ap, ◌∙◌, arith}
use Rattle.std.proofs.lemmas.Bool.{cases_lt}
use Rattle.std.proofs.lemmas.List.{length-map}
use Rattle.lif_model.proofs.Lists.{any_from, none_from}
use Rattle.lif_dir.specs.Entries.{slot_bytes}
use Rattle.lif_plan.specs.Plans.{reaches_past}
use Rattle.lif_plan.proofs.directory.Directory.runs_past.Goals as goal

pub returns-then-reaches_past : goal.returns-then-reaches_past
returns-then-reaches_past c =
    let slots : List (List ℕ) = map slot_bytes c.args.self.now.table.slots in
    sym (any_from [] (reaches_past c.args.size c.args.limit) slots c.loop-k.k (omega (arith, length-map c.args.self.now.table.slots slot_bytes))
    (ap (reaches_past c.args.size c.args.limit) (sym c.entry.ensures) ∙ sym c.reaches_past.ensures ∙ c.if-reaches_past.true))

pub loop-k-preserved : goal.loop-k-preserved
loop-k-preserved c = record {
  none = λ i lt. elim (cases_lt i c.loop-k.k) [
    | inl before ↦ c.loop-k.invariant.none i before
    | inr from ↦
        let same : i ≡ c.loop-k.k = omega (arith, lt, from) in
        ap (λ (j : ℕ). reaches_past c.args.size c.args.limit (get_or (map slot_bytes c.args.self.now.table.slots) j [])) same
        ∙ ap (reaches_past c.args.size c.args.limit) (sym c.entry.ensures) ∙ sym c.reaches_past.ensures ∙ c.if-reaches_past.false
  ];
}

pub returns : goal.returns
returns c =
    let slots : List (List ℕ) = map slot_bytes c.args.self.now.table.slots in
    sym (none_from [] (reaches_past c.args.size c.args.limit) slots (λ i lt. c.loop-k.invariant.none i (omega (arith, lt, length-map c.args.self.now.table.slots slot_bytes))))
