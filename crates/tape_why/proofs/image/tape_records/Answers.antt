use Rattle.std.proofs.Common.{◌≡◌, ◌+◌, ◌++◌, ◌-◌, ◌∙◌, ℕ, List, [], ◌∷◌, ap, sym, append-nil, arith, rules}
use Rattle.std.proofs.lemmas.Grind.{common_steps}
use Rattle.lif_model.specs.Shelf.{cut, tape_of}
use Rattle.tape_why.proofs.Pieces.{piece_more}
use Rattle.tape_why.proofs.image.tape_records.Goals as goal

pub records-preserved : goal.records-preserved
records-preserved c =
    let xs : List (List ℕ) = c.records.records.items in
    let pushed : c.push.new.self.items ≡ xs ++ c.first_piece.result ∷ [] = grind (arith, common_steps) in
    record {
      so_far = ap (λ (l : List (List ℕ)). l ++ cut (c.record_count-count.result - (c.records.place + 1)) c.after_piece-rest.result.now) pushed
          ∙ piece_more c.record_count-count.result c.records.place xs c.records.rest.now c.after_piece-rest.result.now c.first_piece.result
          (cut c.record_count-count.result c.args.image.now) c.first_piece.ensures.content c.after_piece-rest.ensures c.records-test.true c.records.invariant.so_far;
      few = search rules;
      room = search rules;
    }

pub returns-clause-tape : goal.returns-clause-tape
unfolding tape_of
returns-clause-tape c =
    let none : c.record_count-count.result - c.records.place ≡ 0 = omega arith in
    let xs : List (List ℕ) = c.records.records.items in
    sym (append-nil xs) ∙ sym (ap (λ (m : ℕ). xs ++ cut m c.records.rest.now) none) ∙ c.records.invariant.so_far
    ∙ ap (λ (m : ℕ). cut m c.args.image.now) c.record_count-count.ensures.count
