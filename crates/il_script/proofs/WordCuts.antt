-- Laws of words.
use Rattle.std.proofs.Common.{◌≡◌, ℕ, suc, ◌+◌, ◌≤◌, ◌==◌, Bool, true, false, cond, not, List, [], ◌∷◌, length, take, drop, refl, sym, ap, ap₂, ◌∙◌, arith, length-drop, ◌-◌}
use Rattle.std.proofs.Math.Seq.{take-length}
use Rattle.std.proofs.lemmas.List.{length-take-le}
use Rattle.std.specs.List.{prefix_len, take_while}
use Rattle.il_script.specs.Words.{WordCut, word_cut, word_before, words_of, is_space, is_dark, IsNext}

-- how many members at the front pass
abbrev pub front : Bool → ℕ → ℕ
front true n = suc n
front false n = 0

abbrev pub reach_of : (ℕ → Bool) → List ℕ → ℕ
reach_of p [] = 0
reach_of p (x ∷ xs) = front (p x) (reach_of p xs)

front-cond : (b : Bool) (n : ℕ) → cond b (1 + n) 0 ≡ front b n
front-cond true n = omega arith
front-cond false n = refl

reach-prefix : (p : ℕ → Bool) (xs : List ℕ) → prefix_len p xs ≡ reach_of p xs
reach-prefix p [] = refl
reach-prefix p (x ∷ xs) = front-cond (p x) (prefix_len p xs) ∙ ap (front (p x)) (reach-prefix p xs)

reach-within : (p : ℕ → Bool) (xs : List ℕ) → reach_of p xs ≤ length xs
reach-within p [] = omega arith
reach-within p (x ∷ xs) = within-one (p x) (reach_of p xs) (length xs) (reach-within p xs)
  where
    within-one : (b : Bool) (n m : ℕ) → n ≤ m → front b n ≤ suc m
    within-one true n m h = omega arith
    within-one false n m h = omega arith

pub length-front : (p : ℕ → Bool) (xs : List ℕ) → length (take_while p xs) ≡ reach_of p xs
length-front p xs =
    let e = reach-prefix p xs in
    length-take-le (prefix_len p xs) xs (omega (arith, e, reach-within p xs)) ∙ e

-- ---- the word_cut of one more byte

abbrev pick : Bool → ℕ → WordCut → WordCut
pick b x s = cond b (record { first = []; more = word_before s.first s.more }) (record { first = x ∷ s.first; more = s.more })

word_cut-space : (x : ℕ) (line : List ℕ) → (x == 32) ≡ true → word_cut (x ∷ line) ≡ record { first = []; more = words_of line }
word_cut-space x line e = ap (λ b. pick b x (word_cut line)) e

word_cut-dark : (x : ℕ) (line : List ℕ) → (x == 32) ≡ false → word_cut (x ∷ line) ≡ record { first = x ∷ (word_cut line).first; more = (word_cut line).more }
word_cut-dark x line e = ap (λ b. pick b x (word_cut line)) e

words-space : (x : ℕ) (line : List ℕ) → (x == 32) ≡ true → words_of (x ∷ line) ≡ words_of line
words-space x line e = ap (λ (s : WordCut). word_before s.first s.more) (word_cut-space x line e)

-- ---- spaces at the front

pub spaces-dropped : (line : List ℕ) → words_of (drop (reach_of is_space line) line) ≡ words_of line
spaces-dropped [] = refl
spaces-dropped (x ∷ line) = go (x == 32) refl (spaces-dropped line)
  where
    go : (b : Bool) → (x == 32) ≡ b → (words_of (drop (reach_of is_space line) line) ≡ words_of line) → words_of (drop (front (x == 32) (reach_of is_space line)) (x ∷ line)) ≡ words_of (x ∷ line)
    go true e ih = ap (λ b. words_of (drop (front b (reach_of is_space line)) (x ∷ line))) e ∙ ih ∙ sym (words-space x line e)
    go false e ih = ap (λ b. words_of (drop (front b (reach_of is_space line)) (x ∷ line))) e

pub dark-start : (line : List ℕ) → (word_cut (drop (reach_of is_space line) line)).first ≡ [] → words_of (drop (reach_of is_space line) line) ≡ []
dark-start [] = λ h. refl
dark-start (x ∷ line) = go (x == 32) refl (dark-start line)
  where
    nil-cons : (y : ℕ) (ys : List ℕ) → y ∷ ys ≡ [] → ⊥
    nil-cons y ys e = cc

    go : (b : Bool) → (x == 32) ≡ b → ((word_cut (drop (reach_of is_space line) line)).first ≡ [] → words_of (drop (reach_of is_space line) line) ≡ []) → (word_cut (drop (front (x == 32) (reach_of is_space line)) (x ∷ line))).first ≡ [] → words_of (drop (front (x == 32) (reach_of is_space line)) (x ∷ line)) ≡ []
    go true e ih h =
        let at = ap (λ b. drop (front b (reach_of is_space line)) (x ∷ line)) e in
        ap words_of at ∙ ih (ap (λ l. (word_cut l).first) (sym at) ∙ h)
    go false e ih h =
        let at = ap (λ b. drop (front b (reach_of is_space line)) (x ∷ line)) e in
        absurd (nil-cons x (word_cut line).first (ap (λ (s : WordCut). s.first) (sym (word_cut-dark x line e)) ∙ ap (λ l. (word_cut l).first) (sym at) ∙ h))

-- ---- the first word

pub first-word : (line : List ℕ) → take (reach_of is_dark line) line ≡ (word_cut line).first
first-word [] = refl
first-word (x ∷ line) = go (x == 32) refl (first-word line)
  where
    go : (b : Bool) → (x == 32) ≡ b → (take (reach_of is_dark line) line ≡ (word_cut line).first) → take (front (not (x == 32)) (reach_of is_dark line)) (x ∷ line) ≡ (word_cut (x ∷ line)).first
    go true e ih = ap (λ b. take (front (not b) (reach_of is_dark line)) (x ∷ line)) e ∙ ap (λ (s : WordCut). s.first) (sym (word_cut-space x line e))
    go false e ih = ap (λ b. take (front (not b) (reach_of is_dark line)) (x ∷ line)) e ∙ ap (λ l. x ∷ l) ih ∙ ap (λ (s : WordCut). s.first) (sym (word_cut-dark x line e))

pub words-behind : (line : List ℕ) → words_of (drop (reach_of is_dark line) line) ≡ (word_cut line).more
words-behind [] = refl
words-behind (x ∷ line) = go (x == 32) refl (words-behind line)
  where
    go : (b : Bool) → (x == 32) ≡ b → (words_of (drop (reach_of is_dark line) line) ≡ (word_cut line).more) → words_of (drop (front (not (x == 32)) (reach_of is_dark line)) (x ∷ line)) ≡ (word_cut (x ∷ line)).more
    go true e ih = ap (λ b. words_of (drop (front (not b) (reach_of is_dark line)) (x ∷ line))) e ∙ words-space x line e ∙ ap (λ (s : WordCut). s.more) (sym (word_cut-space x line e))
    go false e ih = ap (λ b. words_of (drop (front (not b) (reach_of is_dark line)) (x ∷ line))) e ∙ ih ∙ ap (λ (s : WordCut). s.more) (sym (word_cut-dark x line e))

pub is-next : (line from word rest : List ℕ) → words_of from ≡ words_of line → word ≡ (word_cut from).first → words_of rest ≡ (word_cut from).more
    → ((word_cut from).first ≡ [] → words_of from ≡ []) → IsNext line word rest
is-next line from [] rest h e r n = sym h ∙ n (sym e)
is-next line from (x ∷ word) rest h e r n = sym h ∙ ap₂ word_before (sym e) (sym r)

pub rest_whole : (all : List ℕ) (at : ℕ) → take (length all - at) (drop at all) ≡ drop at all
rest_whole all at = ap (λ k. take k (drop at all)) (sym (length-drop at all)) ∙ take-length (drop at all)
