-- The redo file as its contents and its targets are written.
use Rattle.std.proofs.Common.{◌≡◌, ◌≢◌, ◌<◌, ◌≤◌, ◌+◌, ◌++◌, ◌∙◌, ℕ, suc, List, [], ◌∷◌, false, length, get_or, set, take, inl, inr, sym, ap, subst, arith, length-set, length-take, get_or-set_other, get_or-set_same}
use Rattle.std.proofs.lemmas.Bool.{cases_eq, cases_lt, lt-ltb, le-ltb}
use Rattle.std.proofs.lemmas.List.{take_more, length-map}
use Rattle.lif_model.specs.Tape.{Tape, record_at}
use Rattle.std.specs.Prelude.{Option, Some}
use Rattle.lif_model.specs.Gate.{gate_of, has_open_gate}
use Rattle.lif_model.specs.Stops.{Torn, Elapses, LeavesOnly}
use Rattle.lif_model.specs.declared.version.Version.{Version}
use Rattle.lif_model.specs.declared.version.Version.TheVariants.{One, Two}
use Rattle.lif_model.specs.Redo.{redo_length, redo_start, most_targets, data_record, targets_place, targets_record, Changes, targets_in}
use Rattle.lif_model.specs.Commit.{AreChanges, IsShut, IsStaged, content_writes}
use Rattle.lif_model.proofs.Redo.{changes_long, data_place, redo_places, targets_few, targets_some}
use Rattle.lif_model.proofs.Directory.{data_within}
use Rattle.lif_model.proofs.Commit.{shut_here, set_shut, shut_write}
use Rattle.lif_model.proofs.Texts.{loaded_from}
use Rattle.lif_redo.specs.Filling.{IsFilled}

-- the data records are distinct
pub data_apart : (version : Version) (n i j : ℕ) → redo_length version < n → i < most_targets version → j < most_targets version → i ≢ j → data_record version n i ≢ data_record version n j
data_apart One n i j long few_i few_j ne = λ e. ne (omega (arith, e, long))
data_apart Two n i j long few_i few_j ne = elim (cases_lt i 30) [
  | inl lt ↦ elim (cases_lt j 30) [
    | inl lt_j ↦ rw (lt-ltb i 30 lt, lt-ltb j 30 lt_j) (λ e. ne (omega (arith, e, long)))
    | inr ge_j ↦ rw (lt-ltb i 30 lt, le-ltb j 30 ge_j) (λ e. absurd (omega (arith, e, long, lt, ge_j)))
  ]
  | inr ge ↦ elim (cases_lt j 30) [
    | inl lt_j ↦ rw (le-ltb i 30 ge, lt-ltb j 30 lt_j) (λ e. absurd (omega (arith, e, long, ge, lt_j)))
    | inr ge_j ↦ rw (le-ltb i 30 ge, le-ltb j 30 ge_j) (λ e. ne (omega (arith, e, long, ge, ge_j)))
  ]
]

pub changes_few : (version : Version) (n : ℕ) (cs : Changes) → AreChanges version n cs → length cs ≤ most_targets version
changes_few version n cs are = omega (arith, targets_few version n (targets_in cs) are, length-map cs (λ (c : ℕ × List ℕ). c.0))

pub changes_some : (version : Version) (n : ℕ) (cs : Changes) → AreChanges version n cs → 0 < length cs
changes_some version n cs are = omega (arith, targets_some version n (targets_in cs) are, length-map cs (λ (c : ℕ × List ℕ). c.0))

-- ---- contents

contents_more : (version : Version) (n k : ℕ) (cs : Changes) (c : ℕ × List ℕ) → content_writes version n k (cs ++ c ∷ []) ≡ content_writes version n k cs ++ (data_record version n (k + length cs), c.1) ∷ []
contents_more version n k [] c = ap (λ (j : ℕ). (data_record version n j, c.1) ∷ []) (omega arith)
contents_more version n k (d ∷ cs) c =
    let place : suc k + length cs ≡ k + length (d ∷ cs) = omega arith in
    let rest : content_writes version n (suc k) (cs ++ c ∷ []) ≡ content_writes version n (suc k) cs ++ (data_record version n (k + length (d ∷ cs)), c.1) ∷ [] =
    contents_more version n (suc k) cs c ∙ ap (λ (j : ℕ). content_writes version n (suc k) cs ++ (data_record version n j, c.1) ∷ []) place in
    ap (λ (ws : Changes). (data_record version n k, d.1) ∷ ws) rest

pub contents_next : (version : Version) (n i : ℕ) (cs : Changes) → i < length cs
    → content_writes version n 0 (take i cs) ++ (data_record version n i, (get_or cs i (0, [])).1) ∷ [] ≡ content_writes version n 0 (take (i + 1) cs)
contents_next version n i cs lt =
    let place : 0 + length (take i cs) ≡ i = omega (arith, length-take i cs, lt) in
    sym (ap (content_writes version n 0) (take_more cs i (0, []) lt) ∙ contents_more version n 0 (take i cs) (get_or cs i (0, []))
    ∙ ap (λ (j : ℕ). content_writes version n 0 (take i cs) ++ (data_record version n j, (get_or cs i (0, [])).1) ∷ []) place)

module _ (version : Version) (n : ℕ) (cs : Changes) (t : Tape) (size : length t ≡ n) (are : AreChanges version n cs) where
  here : AreChanges version (length t) cs
  here = subst (λ (m : ℕ). AreChanges version m cs) (sym size) are

  pub filled_first : has_open_gate t ≡ false → IsFilled version 0 cs t t
  filled_first shut = record { shut = shut_here version t shut; contents = λ i lt. absurd (omega (arith, lt)) }

  -- one content more
  pub filled_more : (i : ℕ) (u : Tape) → i < length cs → IsFilled version i cs t u → IsFilled version (i + 1) cs t (set u (data_record version n i) (get_or cs i (0, [])).1)
  filled_more i u lt filled = subst (λ (m : ℕ). IsFilled version (i + 1) cs t (set u (data_record version m i) (get_or cs i (0, [])).1)) size go
    where
      long : redo_length version < length t
      long = (changes_long version (length t) cs here).1

      few : length cs ≤ most_targets version
      few = changes_few version n cs are

      bytes : List ℕ
      bytes = (get_or cs i (0, [])).1

      go : IsFilled version (i + 1) cs t (set u (data_record version (length t) i) (get_or cs i (0, [])).1)
      go =
          let place = data_place version (length t) i long in
          record {
            shut = set_shut version (data_record version (length t) i) t u _ place.0 (λ e. place.1 (sym e)) filled.shut;
            contents = λ j less. elim (cases_eq j i) [
              | inl e ↦ subst (λ (k : ℕ). record_at (set u (data_record version (length t) i) (get_or cs i (0, [])).1) (data_record version (length t) k) ≡ (get_or cs k (0, [])).1) (sym e)
                  (get_or-set_same u (data_record version (length t) i) _ [] (omega (arith, data_within version (length t) i long (omega (arith, lt, few)), filled.shut.records)))
              | inr ne ↦ get_or-set_other u (data_record version (length t) i) (data_record version (length t) j) _ []
                  (data_apart version (length t) j i long (omega (arith, less, lt, few)) (omega (arith, lt, few)) ne) ∙ filled.contents j (omega (arith, less, ne))
            ];
          }

  -- and the targets record
  pub filled_staged : (i : ℕ) (u : Tape) → length cs ≤ i → IsFilled version i cs t u → IsStaged version cs t (set u (targets_place n) (targets_record version (targets_in cs)))
  filled_staged i u all filled =
      let long = changes_long version n cs are in
      let v : Tape = set u (targets_place n) (targets_record version (targets_in cs)) in
      let v_size : length v ≡ n = length-set u (targets_place n) _ ∙ filled.shut.records ∙ size in
      let low = redo_places version (length t) in
      record {
        shut = set_shut version (targets_place n) t u _ (omega (arith, low.1, size)) (omega (arith, size, long.0)) filled.shut;
        loaded = loaded_from version n cs v v_size are
            (λ j lt. get_or-set_other u (targets_place n) (data_record version n j) _ [] (λ e. (data_place version n j long.1).2 (sym e))
            ∙ ap (λ (m : ℕ). record_at u (data_record version m j)) (sym size) ∙ filled.contents j (omega (arith, lt, all)))
            (get_or-set_same u (targets_place n) _ [] (omega (arith, filled.shut.records, size, long.0)));
      }

  -- a stop while a content is written
  pub filled_write : (i place m₀ m₁ m₂ : ℕ) (s₀ s₁ s₂ : ℕ → Tape → Type 0) (tape : Option Tape) (u : Tape) → place ≡ data_record version n i → tape ≡ Some u → IsFilled version i cs t u
      → LeavesOnly m₀ m₁ s₀ s₁ (IsShut version t) → Elapses m₁ m₂ s₁ s₂ tape (Torn place) → LeavesOnly m₀ m₂ s₀ s₂ (IsShut version t)
  filled_write i place m₀ m₁ m₂ s₀ s₁ s₂ tape u at is filled so_far time =
      let where_it_is = data_place version n i (changes_long version n cs are).1 in
      shut_write version t place m₀ m₁ m₂ s₀ s₁ s₂ tape u (subst (λ (m : ℕ). redo_start version m ≤ place) (sym size) (omega (arith, at, where_it_is.0)))
      (λ e. where_it_is.1 (sym (ap gate_of size) ∙ sym e ∙ at)) is filled.shut so_far time

  -- and while the targets record is
  pub targets_write : (i place m₀ m₁ m₂ : ℕ) (s₀ s₁ s₂ : ℕ → Tape → Type 0) (tape : Option Tape) (u : Tape) → place ≡ targets_place n → tape ≡ Some u → IsFilled version i cs t u
      → LeavesOnly m₀ m₁ s₀ s₁ (IsShut version t) → Elapses m₁ m₂ s₁ s₂ tape (Torn place) → LeavesOnly m₀ m₂ s₀ s₂ (IsShut version t)
  targets_write i place m₀ m₁ m₂ s₀ s₁ s₂ tape u at is filled so_far time =
      let long = changes_long version n cs are in
      shut_write version t place m₀ m₁ m₂ s₀ s₁ s₂ tape u (omega (arith, at, size, (redo_places version (length t)).1)) (omega (arith, at, size, long.0)) is filled.shut so_far time
