use Rattle.std.proofs.Common.{◌≡◌, ◌∙◌, ◌+◌, ◌-◌, ◌++◌, ℕ, suc, sym, ap, map, Some, true, false, arith}
use Rattle.std.specs.List.{find, range_with_len}
use Rattle.lif_dir.specs.Names.{new_name}
use Rattle.mended_names.specs.Mending.{is_free, with_number, last_number}
use Rattle.mended_names.proofs.Steps.{last_is, find_here, find_after}
use Rattle.mended_names.proofs.mending.first_numbered.Goals as goal

pub returns-then-is_free : goal.returns-then-is_free
returns-then-is_free c =
    let last = last_is in
    let left : last_number + 1 - c.numbers.number ≡ suc (last_number - c.numbers.number) = omega arith in
    let text : c.deref.result.now ≡ with_number c.args.base.now c.numbers.number = c.deref.ensures.0 ∙ c.with_number-text.ensures in
    let free : is_free (map new_name c.args.names.now ++ c.args.given.now) (with_number c.args.base.now c.numbers.number) ≡ true =
    ap (is_free (map new_name c.args.names.now ++ c.args.given.now)) (sym text) ∙ sym c.is_free.ensures ∙ c.if-is_free.true in
    ap Some c.with_number-text.ensures
    ∙ sym (c.numbers.invariant ∙ find_here (is_free (map new_name c.args.names.now ++ c.args.given.now)) c.args.base.now c.numbers.number _ (last_number - c.numbers.number) left free)

pub numbers-preserved : goal.numbers-preserved
numbers-preserved c =
    let last = last_is in
    let left : last_number + 1 - c.numbers.number ≡ suc (last_number - c.numbers.number) = omega arith in
    let less : last_number - c.numbers.number ≡ last_number + 1 - (c.numbers.number + 1) = omega arith in
    let text : c.deref.result.now ≡ with_number c.args.base.now c.numbers.number = c.deref.ensures.0 ∙ c.with_number-text.ensures in
    let others = map new_name c.args.names.now ++ c.args.given.now in
    let taken : is_free (map new_name c.args.names.now ++ c.args.given.now) (with_number c.args.base.now c.numbers.number) ≡ false =
    ap (is_free (map new_name c.args.names.now ++ c.args.given.now)) (sym text) ∙ sym c.is_free.ensures ∙ c.if-is_free.false in
    c.numbers.invariant
    ∙ find_after (is_free (map new_name c.args.names.now ++ c.args.given.now)) c.args.base.now c.numbers.number _ (last_number - c.numbers.number) left taken
    ∙ ap (λ (k : ℕ). find (is_free (map new_name c.args.names.now ++ c.args.given.now)) (map (with_number c.args.base.now) (range_with_len (c.numbers.number + 1) k))) less

pub returns : goal.returns
returns c =
    let last = last_is in
    let none : last_number + 1 - c.numbers.number ≡ 0 = omega arith in
    sym (c.numbers.invariant
    ∙ ap (λ (k : ℕ). find (is_free (map new_name c.args.names.now ++ c.args.given.now)) (map (with_number c.args.base.now) (range_with_len c.numbers.number k))) none)
