-- Purges of files, one for each name.
use Rattle.std.proofs.Common.{◌≡◌, ◌<◌, ◌+◌, ◌∙◌, ◌++◌, ◌∷◌, Bor, get_or, drop, length, map, ℕ, List, [], sym, ap, arith}
use Rattle.std.proofs.Math.ListN.{get_or-map}
use Rattle.std.proofs.lemmas.List.{append_assoc, drop_more, length-map}
use Rattle.lif_dir.specs.declared.entries.Name.{Name}
use Rattle.tape_changes.specs.Changing.{SaidStep}
use Rattle.tape_changes.specs.Steps.{purge_step, purges}

module _ (names : List Name) (texts : List (Bor (List ℕ))) (i : ℕ) (n : Name) (t : Bor (List ℕ)) (within : i < length names) (each : length names ≡ length texts) where
  abbrev words : List (List ℕ)
  words = map (λ text. text.now) texts

  abbrev here : SaidStep
  here = purge_step (get_or names i n) (get_or texts i t).now

  purges_here : purges (drop i names) (drop i words) ≡ here ∷ purges (drop (i + 1) names) (drop (i + 1) words)
  purges_here =
      let many = length-map texts (λ text. text.now) in
      (λ k. purges (drop_more names i n (omega (arith, within)) k) (drop_more words i t.now (omega (arith, within, each, many)) k))
      ∙ ap (λ (word : List ℕ). purge_step (get_or names i n) word ∷ purges (drop (i + 1) names) (drop (i + 1) words)) (get_or-map (λ text. text.now) texts i t)

  pub purges_more : (before now : List SaidStep) (whole : List SaidStep) → now ≡ before ++ here ∷ [] → before ++ purges (drop i names) (drop i words) ≡ whole → now ++ purges (drop (i + 1) names) (drop (i + 1) words) ≡ whole
  purges_more before now whole is rest =
      ap (λ (l : List SaidStep). l ++ purges (drop (i + 1) names) (drop (i + 1) words)) is
      ∙ append_assoc before (here ∷ []) (purges (drop (i + 1) names) (drop (i + 1) words))
      ∙ ap (λ (l : List SaidStep). before ++ l) (sym purges_here) ∙ rest
