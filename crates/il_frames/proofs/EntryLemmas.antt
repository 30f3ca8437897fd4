-- No two entries have one line.
use Rattle.std.proofs.Common.{nat_eq, false, ◌≡◌, ℕ, ◌<◌, ◌^◌, Bool, true, ◌&&◌, not, ◌==◌, List, [], ◌∷◌, ◌++◌, codes, slice_index, refl, ap, subst, sym, ◌∙◌, arith, append_assoc}
use Rattle.std.proofs.lemmas.Bool.{and_parts}
use Rattle.std.proofs.lemmas.List.{append_cancel_left}
use Rattle.std.proofs.lemmas.Fmt.{decimal_injective}
use Rattle.std.specs.Fmt.{decimal, digits}
use Rattle.il_frames.specs.declared.frame.Frame.{Frame}
use Rattle.il_frames.specs.declared.entry.Entry.{Entry}
use Rattle.il_frames.specs.declared.entry.Outcome.{Outcome}
use Rattle.il_frames.specs.declared.entry.Outcome.TheVariants as outcome
use Rattle.il_frames.specs.Texts.{text_of}
use Rattle.il_frames.specs.Entries.{outcome_text, entry_text, IsOutcome, IsEntry}
use Rattle.il_frames.proofs.ReadBack.{all_below, all_below-at, text_of-prefix, only_text}

-- no byte is a space
abbrev pub has_no_space : List ℕ → Bool
has_no_space [] = true
has_no_space (c ∷ cs) = not (c == 32) && has_no_space cs

all_decimals : all_below (λ n. has_no_space (decimal n)) 256 ≡ true
unfolding all_below digits
all_decimals = refl

pub has_no_space-decimal : (n : ℕ) → n < 256 → has_no_space (decimal n) ≡ true
has_no_space-decimal n h = all_below-at (λ k. has_no_space (decimal k)) 256 n all_decimals h

no_space : (c : ℕ) (cs : List ℕ) → has_no_space (c ∷ cs) ≡ true → c ≡ 32 → ⊥
no_space c cs h e =
    let at_space : has_no_space (32 ∷ cs) ≡ true = subst (λ (n : ℕ). has_no_space (n ∷ cs) ≡ true) e h in
    cc

first_same : (a b : List ℕ) → a ≡ b → slice_index a 0 ≡ slice_index b 0
first_same a b e = ap (λ (xs : List ℕ). slice_index xs 0) e

-- what stands before the first space, and after it
split : (a b s t : List ℕ) → has_no_space a ≡ true → has_no_space b ≡ true →
    a ++ 32 ∷ s ≡ b ++ 32 ∷ t → (a ≡ b) × (s ≡ t)
split [] [] s t ha hb e = (refl, cc)
split [] (c ∷ cs) s t ha hb e = absurd (no_space c cs hb (sym (first_same _ _ e)))
split (c ∷ cs) [] s t ha hb e = absurd (no_space c cs ha (first_same _ _ e))
split (c ∷ cs) (d ∷ ds) s t ha hb e =
    let heads : c ≡ d = cc in
    let tails : cs ++ 32 ∷ s ≡ ds ++ 32 ∷ t = cc in
    let rest_of_a = (and_parts (not (c == 32)) (has_no_space cs) ha).1 in
    let rest_of_b = (and_parts (not (d == 32)) (has_no_space ds) hb).1 in
    let more = split cs ds s t rest_of_a rest_of_b tails in
    (ap (λ (n : ℕ). n ∷ cs) heads ∙ ap (λ (xs : List ℕ). d ∷ xs) more.0, more.1)

below_64 : (n : ℕ) → n < 256 → n < 2 ^ 64
below_64 n h = omega arith

-- the marks of two outcomes of different kinds differ
marks_differ : (a b : List ℕ) → nat_eq (slice_index a 1) (slice_index b 1) ≡ false → a ≡ b → ⊥
marks_differ a b ne e =
    let same : slice_index a 1 ≡ slice_index b 1 = ap (λ (xs : List ℕ). slice_index xs 1) e in
    grind arith

same_party : (mark : List ℕ) (q r : ℕ) → q < 256 → r < 256 →
    mark ++ decimal q ≡ mark ++ decimal r → q ≡ r
same_party mark q r hq hr e =
    decimal_injective q r (below_64 q hq) (below_64 r hr) (append_cancel_left mark _ _ e)

outcome_text-injective :
    (o p : Outcome) → IsOutcome o → IsOutcome p → outcome_text o ≡ outcome_text p → o ≡ p
outcome_text-injective (outcome.Back f) (outcome.Back g) ho hp e =
    ap outcome.Back (only_text g (text_of g) hp refl f ho (append_cancel_left (codes " = ") _ _ e))
outcome_text-injective (outcome.Back f) (outcome.Taken q) ho hp e = absurd (marks_differ _ _ refl e)
outcome_text-injective (outcome.Back f) (outcome.Lost q) ho hp e = absurd (marks_differ _ _ refl e)
outcome_text-injective (outcome.Taken q) (outcome.Back g) ho hp e = absurd (marks_differ _ _ refl e)
outcome_text-injective (outcome.Taken q) (outcome.Taken r) ho hp e =
    ap outcome.Taken (same_party (codes " > ") q r ho hp e)
outcome_text-injective (outcome.Taken q) (outcome.Lost r) ho hp e = absurd (marks_differ _ _ refl e)
outcome_text-injective (outcome.Lost q) (outcome.Back g) ho hp e = absurd (marks_differ _ _ refl e)
outcome_text-injective (outcome.Lost q) (outcome.Taken r) ho hp e = absurd (marks_differ _ _ refl e)
outcome_text-injective (outcome.Lost q) (outcome.Lost r) ho hp e =
    ap outcome.Lost (same_party (codes " ! ") q r ho hp e)

abbrev pub entry : ℕ → Frame → Outcome → Entry
entry s f o = record { source = s; frame = f; outcome = o }

pub same_entry : (a b : Entry) → a.source ≡ b.source → a.frame ≡ b.frame → a.outcome ≡ b.outcome → a ≡ b
same_entry a b p q r =
    ap (λ (s : ℕ). entry s a.frame a.outcome) p
    ∙ ap (λ (f : Frame). entry b.source f a.outcome) q
    ∙ ap (λ (o : Outcome). entry b.source b.frame o) r

-- what follows the source in a line
abbrev pub tail_of : Entry → List ℕ
tail_of e = text_of e.frame ++ outcome_text e.outcome

grouped : (d t o : List ℕ) →
    codes "~ " ++ d ++ codes " " ++ t ++ o ≡ codes "~ " ++ (d ++ 32 ∷ (t ++ o))
grouped d t o = simp append_assoc

-- a line by its parts
pub entry_text-parts : (e : Entry) → entry_text e ≡ codes "~ " ++ (decimal e.source ++ 32 ∷ tail_of e)
entry_text-parts e = grouped (decimal e.source) (text_of e.frame) (outcome_text e.outcome)

pub only_entry : (e : Entry) (s : List ℕ) → IsEntry e → s ≡ entry_text e →
    (other : Entry) → IsEntry other → entry_text other ≡ s → other ≡ e
only_entry e s he is other ho same =
    let whole = sym (entry_text-parts other) ∙ same ∙ is ∙ entry_text-parts e in
    let parts = split (decimal other.source) (decimal e.source) (tail_of other) (tail_of e)
    (has_no_space-decimal other.source ho.0) (has_no_space-decimal e.source he.0)
    (append_cancel_left (codes "~ ") _ _ whole) in
    let source : other.source ≡ e.source =
    decimal_injective other.source e.source (below_64 _ ho.0) (below_64 _ he.0) parts.0 in
    let frame : other.frame ≡ e.frame =
    text_of-prefix other.frame e.frame (outcome_text other.outcome) (outcome_text e.outcome)
    ho.1 he.1 parts.1 in
    let rest : tail_of other ≡ text_of other.frame ++ outcome_text e.outcome =
    parts.1 ∙ ap (λ (f : Frame). text_of f ++ outcome_text e.outcome) (sym frame) in
    let ended : other.outcome ≡ e.outcome =
    outcome_text-injective other.outcome e.outcome ho.2 he.2
    (append_cancel_left (text_of other.frame) _ _ rest) in
    same_entry other e source frame ended
