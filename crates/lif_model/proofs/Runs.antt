-- Runs of records that are read or written one after the other: their bytes, what they leave of a tape, and what a power
-- stop leaves meanwhile.
use Rattle.std.proofs.Common.{◌≡◌, ◌<◌, ◌≤◌, ◌+◌, ◌*◌, ◌++◌, ◌⊎◌, ⊎_elim, ℕ, zero, suc, List, [], ◌∷◌, Bool, false, inl, inr, length, get_or, set, take, drop, refl, sym, ◌∙◌, ap, subst, arith, length-set, get_or-set_same, get_or-set_other, append_assoc, append-nil}
use Rattle.std.specs.Prelude.{Option, Some, MatchBool, nat_lt}
use Rattle.std.proofs.lemmas.Bool.{cases_eq, cases_lt, cases_order, cases_Bool, lt-ltb, ltb-true}
use Rattle.std.proofs.lemmas.List.{length-take-le, get_or-take, take_all, ext_get_or}
use Rattle.std.proofs.Math.Seq.{take-length, drop-drop}
use Rattle.lif_model.specs.Tape.{Tape, record_at, bytes_from}
use Rattle.lif_model.specs.Shelf.{piece, cut, bytes_of}
use Rattle.lif_model.specs.Stops.{Torn, Elapses}
use Rattle.lif_model.specs.Transfers.{Replaced, PartlyReplaced}
use Rattle.lif_model.proofs.History.{torn_by}

-- ---- bytes

-- one record more
pub bytes_from_more : (t : Tape) (k n : ℕ) → bytes_from t k (suc n) ≡ bytes_from t k n ++ record_at t (k + n)
bytes_from_more t k zero = append-nil (record_at t k) ∙ ap (record_at t) (omega arith)
bytes_from_more t k (suc n) =
    ap (λ (bytes : List ℕ). record_at t k ++ bytes) (bytes_from_more t (suc k) n) ∙ sym (append_assoc (record_at t k) (bytes_from t (suc k) n) (record_at t (suc k + n)))
    ∙ ap (λ (m : ℕ). (record_at t k ++ bytes_from t (suc k) n) ++ record_at t m) (omega arith)

-- the bytes of one record
pub bytes_from_one : (t : Tape) (k : ℕ) → bytes_from t k 1 ≡ record_at t k
bytes_from_one t k = append-nil (record_at t k)

bytes_from_behind : (x : List ℕ) (t : Tape) (k n : ℕ) → bytes_from (x ∷ t) (suc k) n ≡ bytes_from t k n
bytes_from_behind x t k zero = refl
bytes_from_behind x t k (suc n) = ap (λ (bytes : List ℕ). record_at t k ++ bytes) (bytes_from_behind x t (suc k) n)

-- the bytes of all records
pub bytes_from_all : (t : Tape) → bytes_from t 0 (length t) ≡ bytes_of t
bytes_from_all [] = refl
bytes_from_all (x ∷ t) = ap (λ (bytes : List ℕ). x ++ bytes) (bytes_from_behind x t 0 (length t) ∙ bytes_from_all t)

-- piece i of a run begins 256 * i bytes after its front
pub piece_at : (n i : ℕ) (bytes : List ℕ) → i < n → record_at (cut n bytes) i ≡ piece (drop (256 * i) bytes)
piece_at zero i bytes lt = absurd (omega (arith, lt))
piece_at (suc n) zero bytes lt = refl
piece_at (suc n) (suc i) bytes lt =
    piece_at n i (drop 256 bytes) (omega (arith, lt)) ∙ ap piece (drop-drop (256 * i) 256 bytes ∙ ap (λ (m : ℕ). drop m bytes) (omega arith))

-- after a piece begins the next
pub drop_next : (i : ℕ) (bytes : List ℕ) → drop 256 (drop (256 * i) bytes) ≡ drop (256 * (i + 1)) bytes
drop_next i bytes =
    let sum : 256 * i + 256 ≡ 256 * (i + 1) = omega arith in
    drop-drop 256 (256 * i) bytes ∙ ap (λ (m : ℕ). drop m bytes) sum

-- ---- tapes

pub replaced_none : (first : ℕ) (t : Tape) → Replaced first [] t t
replaced_none first t = record { records = refl; within = λ i lt. absurd (omega (arith, lt)); before = λ k lt. refl; behind = λ k le. refl }

module _ (first j : ℕ) (pieces : List (List ℕ)) (t u : Tape) (more : j < length pieces) (done : Replaced first (take j pieces) t u) where
  so_many : length (take j pieces) ≡ j
  so_many = length-take-le j pieces (omega (arith, more))

  -- one piece more
  pub replaced_more : first + length pieces ≤ length t → Replaced first (take (j + 1) pieces) t (set u (first + j) (get_or pieces j []))
  replaced_more fits = record {
    records = length-set u (first + j) (get_or pieces j []) ∙ done.records;
    within = λ i lt. elim (cases_eq i j) [
      | inl e ↦
          ap (λ (k : ℕ). record_at (set u (first + j) (get_or pieces j [])) (first + k)) e ∙ get_or-set_same u (first + j) (get_or pieces j []) [] (omega (arith, more, fits, done.records))
          ∙ sym (ap (λ (k : ℕ). get_or pieces k []) e) ∙ sym (get_or-take (j + 1) pieces i [] (omega (arith, e)))
      | inr ne ↦
          let lt_j : i < j = omega (arith, lt, ne, now_many) in
          get_or-set_other u (first + j) (first + i) (get_or pieces j []) [] (λ e. ne (omega (arith, e))) ∙ done.within i (omega (arith, lt_j, so_many))
          ∙ get_or-take j pieces i [] lt_j ∙ sym (get_or-take (j + 1) pieces i [] (omega (arith, lt_j)))
    ];
    before = λ k lt. get_or-set_other u (first + j) k (get_or pieces j []) [] (λ e. absurd (omega (arith, e, lt))) ∙ done.before k lt;
    behind = λ k le. get_or-set_other u (first + j) k (get_or pieces j []) [] (λ e. absurd (omega (arith, e, le, now_many))) ∙ done.behind k (omega (arith, le, now_many, so_many));
  }
    where
      now_many : length (take (j + 1) pieces) ≡ j + 1
      now_many = length-take-le (j + 1) pieces (omega (arith, more))

  -- the next piece may be torn
  pub torn_next : (c : Tape) → Torn (first + j) u c → PartlyReplaced first pieces t c
  torn_next c torn = record {
    count = j;
    in_range = omega (arith, more);
    written = u;
    replaced = done;
    torn = subst (λ (b : Bool). MatchBool b (Torn (first + j) u c) (c ≡ u)) (sym (lt-ltb j (length pieces) more)) torn;
  }

-- a record with the bytes that it has
pub torn_nothing : (n : ℕ) (t : Tape) → Torn n t t
torn_nothing n t = record { records = refl; bytes = refl; elsewhere = λ k ne. refl }

-- all pieces, or as many as there are
pub replaced_all : (first j : ℕ) (pieces : List (List ℕ)) (t u : Tape) → length pieces ≤ j → Replaced first (take j pieces) t u → Replaced first pieces t u
replaced_all first j pieces t u all done = subst (λ (ps : List (List ℕ)). Replaced first ps t u) (take_all j pieces all) done

-- some pieces, and nothing torn
pub partly_replaced : (first j : ℕ) (pieces : List (List ℕ)) (t u : Tape) → Replaced first (take j pieces) t u → PartlyReplaced first pieces t u
partly_replaced first j pieces t u done = elim (cases_lt j (length pieces)) [
  | inl lt ↦ torn_next first j pieces t u lt done u (torn_nothing (first + j) u)
  | inr ge ↦ record {
    count = length pieces;
    in_range = omega arith;
    written = u;
    replaced = subst (λ (ps : List (List ℕ)). Replaced first ps t u) (take_all j pieces ge ∙ sym (take-length pieces)) done;
    torn = subst (λ (b : Bool). MatchBool b (Torn (first + length pieces) u u) (u ≡ u)) (sym no_less) refl;
  }
]
  where
    no_less : nat_lt (length pieces) (length pieces) ≡ false
    no_less = elim (cases_Bool (nat_lt (length pieces) (length pieces))) [
      | inl is ↦ absurd (omega (arith, ltb-true (length pieces) (length pieces) is))
      | inr is ↦ is
    ]

-- ---- one record

-- a run of one piece replaces that record
pub one_replaced : (n : ℕ) (bytes : List ℕ) (t : Tape) → n < length t → Replaced n (bytes ∷ []) t (set t n bytes)
one_replaced n bytes t within = record {
  records = length-set t n bytes;
  within = λ i lt.
      let first : i ≡ 0 = omega (arith, lt) in
      let here : n + i ≡ n = omega (arith, lt) in
      ap (record_at (set t n bytes)) here ∙ get_or-set_same t n bytes [] within ∙ sym (ap (λ (j : ℕ). get_or (bytes ∷ []) j []) first);
  before = λ k lt. get_or-set_other t n k bytes [] (λ e. absurd (omega (arith, e, lt)));
  behind = λ k le. get_or-set_other t n k bytes [] (λ e. absurd (omega (arith, e, le)));
}

pub replaced_one : (n : ℕ) (bytes : List ℕ) (t u : Tape) → n < length t → Replaced n (bytes ∷ []) t u → u ≡ set t n bytes
replaced_one n bytes t u within done = ext_get_or [] u (set t n bytes) (done.records ∙ sym (length-set t n bytes)) (λ k lt. at k (cases_order k n))
  where
    at : (k : ℕ) → (k ≡ n) ⊎ ((k < n) ⊎ (n < k)) → record_at u k ≡ record_at (set t n bytes) k
    at k (inl e) =
        let here : n + 0 ≡ n = omega arith in
        ap (record_at u) (e ∙ sym here) ∙ done.within 0 (omega arith) ∙ sym (get_or-set_same t n bytes [] within) ∙ ap (record_at (set t n bytes)) (sym e)
    at k (inr (inl less)) = done.before k less ∙ sym (get_or-set_other t n k bytes [] (λ e. absurd (omega (arith, e, less))))
    at k (inr (inr more)) = done.behind k (omega (arith, more)) ∙ sym (get_or-set_other t n k bytes [] (λ e. absurd (omega (arith, e, more))))

-- one that is torn may hold any bytes in that record
pub one_torn : (n : ℕ) (bytes : List ℕ) (t c : Tape) → n < length t → Torn n t c → PartlyReplaced n (bytes ∷ []) t c
one_torn n bytes t c within torn =
    let here : n + 0 ≡ n = omega arith in
    torn_next n 0 (bytes ∷ []) t t (omega arith) (replaced_none n t) c (subst (λ (k : ℕ). Torn k t c) (sym here) torn)

-- other bytes in one record, of the same number, are what may be torn of it
set_torn : (n : ℕ) (bytes : List ℕ) (t : Tape) → length bytes ≡ length (record_at t n) → n < length t → Torn n t (set t n bytes)
set_torn n bytes t size within = torn_by t n bytes size within

none_replaced : (n : ℕ) (t u : Tape) → Replaced n [] t u → u ≡ t
none_replaced n t u done = ext_get_or [] u t done.records (λ k lt. elim (cases_lt k n) [ inl less ↦ done.before k less | inr more ↦ done.behind k (omega (arith, more)) ])

pub torn_one : (n : ℕ) (bytes : List ℕ) (t c : Tape) → length bytes ≡ length (record_at t n) → n < length t → PartlyReplaced n (bytes ∷ []) t c → Torn n t c
torn_one n bytes t c size within partly = go partly.count partly.in_range partly.written partly.replaced partly.torn
  where
    go : (count : ℕ) → count ≤ 1 → (written : Tape) → Replaced n (take count (bytes ∷ [])) t written → MatchBool (nat_lt count 1) (Torn (n + count) written c) (c ≡ written) → Torn n t c
    go zero le written done torn =
        let here : n + 0 ≡ n = omega arith in
        subst (λ (k : ℕ). Torn k t c) here (subst (λ (u : Tape). Torn (n + 0) u c) (none_replaced n t written done) torn)
    go (suc zero) le written done is = subst (Torn n t) (sym (is ∙ replaced_one n bytes t written within done)) (set_torn n bytes t size within)
    go (suc (suc count)) le written done torn = absurd (omega (arith, le))

-- ---- power stops

abbrev Since : Type 1
Since = ℕ → Tape → Type 0

pub same_tape : (t u : Tape) → Some t ≡ Some u → t ≡ u
same_tape t u is = cc

-- one call more, which leaves what the calls so far may leave
pub elapses_then : (m₀ m₁ m₂ : ℕ) (s₀ s₁ s₂ : Since) (tape mid : Option Tape) (P Q : Tape → Tape → Type 0) → Elapses m₀ m₁ s₀ s₁ tape P → Elapses m₁ m₂ s₁ s₂ mid Q
    → ((t : Tape) → tape ≡ Some t → (u : Tape) × (mid ≡ Some u) × ((c : Tape) → Q u c → P t c)) → Elapses m₀ m₂ s₀ s₂ tape P
elapses_then m₀ m₁ m₂ s₀ s₁ s₂ tape mid P Q so_far next here = record {
  later = omega (arith, so_far.later, next.later);
  nothing_else = λ t told m c le left.
      let now = here t told in
      ⊎_elim (λ past. so_far.nothing_else t told m c le past) (λ torn. inr (now.2 c torn)) (next.nothing_else now.0 now.1 m c (omega (arith, le, so_far.later)) left);
  keeps = λ m c le past. next.keeps m c (omega (arith, le, so_far.later)) (so_far.keeps m c le past);
}

-- the same of tapes that are told
pub elapses_further : (m₀ m₁ m₂ : ℕ) (s₀ s₁ s₂ : Since) (t u : Tape) (P Q : Tape → Tape → Type 0)
    → Elapses m₀ m₁ s₀ s₁ (Some t) P → Elapses m₁ m₂ s₁ s₂ (Some u) Q → ((c : Tape) → Q u c → P t c) → Elapses m₀ m₂ s₀ s₂ (Some t) P
elapses_further m₀ m₁ m₂ s₀ s₁ s₂ t u P Q so_far next here =
    elapses_then m₀ m₁ m₂ s₀ s₁ s₂ (Some t) (Some u) P Q so_far next (λ x told. (u, refl, λ c torn. subst (λ (y : Tape). P y c) (same_tape t x told) (here c torn)))
