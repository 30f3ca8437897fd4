use Rattle.std.proofs.Common.{◌≡◌, false, cond, length, Some, None, sym, ap, ◌∙◌}
use Rattle.std.specs.List.{take_while}
use Rattle.std.proofs.lemmas.Bool.{and_parts, ltb-true}
use Rattle.il_ring.specs.Plans.{rises_from}
use Rattle.il_words.specs.Planning.{is_named, in_order}
use Rattle.il_words.proofs.Placing.{is_before, in_order-insert, rises_in_order}
use Rattle.il_words.proofs.plan.place.Goals as goal

pub returns-clause-placed : goal.returns-clause-placed
returns-clause-placed c =
    let fault = c.args.fault in
    let plan = c.args.plan.now.items in
    let named : false ≡ is_named fault.hop plan = c.if-is_named.ensures ∙ ap (is_named fault.hop) c.deref.ensures.0 in
    let at = c.count_before.ensures ∙ ap (λ l. length (take_while (is_before fault.hop) l)) c.deref-2.ensures.0 in
    ap Some (c.insert.ensures.items ∙ in_order-insert fault plan c.count_before.result at) ∙ ap (λ b. cond b None (Some (in_order fault plan))) named

pub returns-clause-rising : goal.returns-clause-rising
returns-clause-rising c =
    let fault = c.args.fault in
    let plan = c.args.plan.now.items in
    let named : false ≡ is_named fault.hop plan = c.if-is_named.ensures ∙ ap (is_named fault.hop) c.deref.ensures.0 in
    let at = c.count_before.ensures ∙ ap (λ l. length (take_while (is_before fault.hop) l)) c.deref-2.ensures.0 in
    let items = c.insert.ensures.items ∙ in_order-insert fault plan c.count_before.result at in
    let valid = and_parts _ _ c.requires.planned in
    ap (rises_from 0) items ∙ rises_in_order 0 fault plan (ltb-true _ _ valid.0) (and_parts _ _ valid.1).0 c.requires.rising (sym named)
