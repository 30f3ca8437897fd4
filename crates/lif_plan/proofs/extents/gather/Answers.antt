use Rattle.std.proofs.Common.{◌≡◌, ◌<◌, ◌++◌, ℕ, List, [], ◌∷◌, true, false, map, get_or, length, sym, ap, ◌∙◌, arith, rules}
use Rattle.std.proofs.lemmas.List.{length-map}
use Rattle.std.proofs.lemmas.Grind.{common_steps}
use Rattle.lif_model.specs.Legal.{occupies}
use Rattle.lif_dir.specs.Entries.{entry_bytes, slot_bytes}
use Rattle.lif_plan.specs.declared.extents.Extent.{Extent}
use Rattle.lif_plan.specs.Entries.{extent_of}
use Rattle.lif_plan.proofs.LegalExtents.{one_more, none_more}
use Rattle.lif_plan.proofs.extents.gather.Goals as goal
use Rattle.lif_plan.proofs.extents.gather.Goals.{then-occupies, else-occupies}

pub loop-k-preserved : goal.loop-k-preserved
loop-k-preserved c =
    let bytes : List (List ℕ) = map slot_bytes c.args.table.now.slots in
    let within : c.loop-k.k < length bytes = omega (arith, length-map c.args.table.now.slots slot_bytes) in
    let here : entry_bytes c.entry-entry.result.now ≡ get_or bytes c.loop-k.k [] = c.entry-entry.ensures in
    let v = c.loop-k.invariant in
    elim c.if-occupies.branch [
      | then-occupies w ↦
          let on : occupies (get_or bytes c.loop-k.k []) ≡ true = sym (ap occupies here) ∙ sym c.occupies.ensures ∙ w.if-occupies.true in
          let pushed : c.if-occupies.extents.items ≡ c.loop-k.extents.items ++ w.of.result ∷ [] = grind (arith, common_steps) in
          record {
            extents = pushed ∙ ap (λ (xs : List Extent). xs ++ w.of.result ∷ []) v.extents ∙ sym (one_more bytes c.loop-k.k within w.of.result on (w.of.ensures ∙ ap extent_of here));
            few = search rules;
            memory = search rules;
          }
      | else-occupies w ↦
          let off : occupies (get_or bytes c.loop-k.k []) ≡ false = sym (ap occupies here) ∙ sym c.occupies.ensures ∙ w.if-occupies.false in
          record {
            extents = ap (λ e. e.items) w.extents-is ∙ v.extents ∙ sym (none_more bytes c.loop-k.k within off);
            few = search rules;
            memory = search rules;
          }
    ]
