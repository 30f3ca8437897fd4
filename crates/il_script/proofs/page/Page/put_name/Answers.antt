use Rattle.std.proofs.Common.{arith, rules, ◌≡◌, ◌<◌, ◌++◌, [], length, ap, ap₂, sym, ◌∙◌, take, List, ℕ}
use Rattle.std.proofs.lemmas.List.{nil_from_length, take_all}
use Rattle.std.specs.List.{flat_map}
use Rattle.lif_model.specs.Printed.{printed_byte}
use Rattle.il_script.specs.Sheet.{Sheet}
use Rattle.il_script.proofs.ReadBack.{printed-read}
use Rattle.il_script.proofs.Spaces.{printed-spaces, printed-bytes}
use Rattle.il_script.proofs.page.Page.put_name.Goals as goal

pub returns-then-is_empty-clause-text : goal.returns-then-is_empty-clause-text
returns-then-is_empty-clause-text c =
    let kept = c.without_end_spaces-kept.result.now in
    let none : kept ≡ [] = nil_from_length kept (search (rules, c.if-is_empty.ensures)) in
    c.put.ensures ∙ ap (λ (l : List ℕ). let s : Sheet = record { text = c.args.self.now.text ++ l; room = c.args.self.now.room } in s) (sym (printed-spaces c.args.name.now kept c.without_end_spaces-kept.ensures.text none))

pub returns-clause-text : goal.returns-clause-text
returns-clause-text c =
    let kept = c.without_end_spaces-kept.result.now in
    let i = c.loop-byte.byte-index in
    let some : 0 < length kept = search (rules, c.if-is_empty.ensures) in
    let all : take i kept ≡ kept = take_all i kept (omega arith) in
    let text = c.loop-byte.invariant.text ∙ ap (λ l. c.args.self.now.text ++ flat_map printed_byte l) all
    ∙ ap (λ l. c.args.self.now.text ++ l) (sym (printed-bytes c.args.name.now kept c.without_end_spaces-kept.ensures.text some)) in
    ap₂ (λ (l : List ℕ) (n : ℕ). let s : Sheet = record { text = l; room = n } in s) text c.loop-byte.invariant.room

pub returns-then-is_empty-clause-read_back : goal.returns-then-is_empty-clause-read_back
returns-then-is_empty-clause-read_back c = λ file is size. printed-read c.args.name.now file (λ i. (c.type_inv.name i).fits) is size

pub returns-clause-read_back : goal.returns-clause-read_back
returns-clause-read_back c = λ file is size. printed-read c.args.name.now file (λ i. (c.type_inv.name i).fits) is size
