-- A tape that keeps its writes keeps the laws of moments: a stop now leaves the tape as it reads, and a write, whatever
-- it answers, lets time go on by what is torn of its record.
use Rattle.std.proofs.Common.{◌≡◌, ◌⊎◌, ◌<◌, ◌≤◌, ◌+◌, ◌++◌, ℕ, List, [], ◌∷◌, length, get_or, set, take, inl, inr, refl, sym, ◌∙◌, ap, subst, arith, length-set, get_or-set_other, get_or-set_same}
use Rattle.std.specs.Prelude.{◌==◌, if◌then◌else◌, Bool, true, false, Some}
use Rattle.std.proofs.lemmas.List.{take_all, take-append-le, get_or_append_left, get_or_push, length_push}
use Rattle.std.proofs.lemmas.Bool.{cases_eq, cases_lt, cases_Bool, eqb-true, eq-eqb}
use Rattle.lif_model.specs.Tape.{Tape, IsTape, record_at}
use Rattle.lif_model.specs.Stops.{Torn, Elapses}
use Rattle.lif_model.specs.Redo.{Changes, changed}
use Rattle.lif_model.specs.History.{tape_after, LeftAt, LeftBy}
use Rattle.lif_model.proofs.Commit.{changed_more}

-- ---- shapes

same_told : (tape t : Tape) → Some tape ≡ Some t → tape ≡ t
same_told tape t is = cc

-- each record has 256 bytes
abbrev pub IsShaped : Tape → Type 0
IsShaped tape = (k : ℕ) → k < length tape → length (record_at tape k) ≡ 256

pub told_shape : (tape : Tape) → IsShaped tape → (t : Tape) → Some tape ≡ Some t → IsTape (length tape) t
told_shape tape shaped t is = subst (IsTape (length tape)) (same_told tape t is) (record { records = refl; bytes = shaped })

pub set_shaped : (t : Tape) (n : ℕ) (bytes : List ℕ) → length bytes ≡ 256 → IsShaped t → IsShaped (set t n bytes)
set_shaped t n bytes whole shaped k lt = elim (cases_eq k n) [
  | inl e ↦ subst (λ (m : ℕ). length (record_at (set t n bytes) m) ≡ 256) (sym e) (ap (λ (r : List ℕ). length r) (get_or-set_same t n bytes [] (omega (arith, e, lt, length-set t n bytes))) ∙ whole)
  | inr ne ↦ ap (λ (r : List ℕ). length r) (get_or-set_other t n k bytes [] ne) ∙ shaped k (omega (arith, lt, length-set t n bytes))
]

-- what a record holds after a change
pub record_behind : (t : Tape) (k n : ℕ) (bytes : List ℕ) → n < length t → record_at (set t k bytes) n ≡ (if k == n then bytes else record_at t n)
record_behind t k n bytes within = elim (cases_Bool (k == n)) [
  | inl same ↦
      let e : k ≡ n = eqb-true k n same in
      ap (λ (j : ℕ). record_at (set t j bytes) n) e ∙ get_or-set_same t n bytes [] within ∙ sym (ap (λ (b : Bool). if b then bytes else record_at t n) same)
  | inr other ↦ get_or-set_other t k n bytes [] (λ e. let both : true ≡ false = sym (eq-eqb k n (sym e)) ∙ other in cc) ∙ sym (ap (λ (b : Bool). if b then bytes else record_at t n) other)
]

-- other bytes in one record are what may be torn of it
pub torn_by : (t : Tape) (n : ℕ) (bytes : List ℕ) → length bytes ≡ length (record_at t n) → n < length t → Torn n t (set t n bytes)
torn_by t n bytes size within = record {
  records = length-set t n bytes;
  bytes = ap (λ (r : List ℕ). length r) (get_or-set_same t n bytes [] within) ∙ size;
  elsewhere = λ k ne. get_or-set_other t n k bytes [] ne;
}

-- ---- a stop now

all_writes : (first : Tape) (writes : Changes) (k : ℕ) → length writes ≤ k → tape_after first writes k ≡ changed writes first
all_writes first writes k le = ap (λ (ws : Changes). changed ws first) (take_all k writes (omega (arith, le)))

left_now : (first : Tape) (writes : Changes) (tape : Tape) (m : ℕ) (u : Tape) → tape ≡ changed writes first → u ≡ tape → m ≤ length writes → LeftBy first writes m u
left_now first writes tape m u is same le = record { at = length writes; since = le; made = omega arith; left = inl (same ∙ is ∙ sym (all_writes first writes (length writes) (omega arith))) }

pub told_now : (first tape : Tape) (writes : Changes) → tape ≡ changed writes first → (m : ℕ) (t : Tape) → m ≤ length writes → Some tape ≡ Some t → LeftBy first writes m t
told_now first tape writes replays m t le is = left_now first writes tape m t replays (sym (same_told tape t is)) le

only_left : (first : Tape) (writes : Changes) (tape c : Tape) → tape ≡ changed writes first → LeftBy first writes (length writes) c → c ≡ tape
only_left first writes tape c is by =
    let last : by.at ≡ length writes = omega (arith, by.since, by.made) in
    elim by.left [
      | inl now ↦ now ∙ all_writes first writes by.at (omega (arith, last)) ∙ sym is
      | inr torn ↦ absurd (omega (arith, torn.0, last))
    ]

pub told_only : (first tape : Tape) (writes : Changes) → tape ≡ changed writes first → (t c : Tape) → Some tape ≡ Some t → LeftBy first writes (length writes) c → c ≡ t
told_only first tape writes replays t c is by = only_left first writes tape c replays by ∙ same_told tape t is

-- ---- one write more

module _ (first : Tape) (writes later : Changes) (w : ℕ × List ℕ) (is : later ≡ writes ++ w ∷ []) where
  longer : length later ≡ length writes + 1
  longer = ap (λ (ws : Changes). length ws) is ∙ length_push writes w

  earlier : (k : ℕ) → k ≤ length writes → tape_after first later k ≡ tape_after first writes k
  earlier k le = ap (λ (ws : Changes). changed (take k ws) first) is ∙ ap (λ (ws : Changes). changed ws first) (take-append-le k writes (w ∷ []) le)

  same_write : (k : ℕ) → k < length writes → get_or later k (0, []) ≡ get_or writes k (0, [])
  same_write k lt = ap (λ (ws : Changes). get_or ws k (0, [])) is ∙ get_or_append_left writes (w ∷ []) (0, []) k lt

  last_write : get_or later (length writes) (0, []) ≡ w
  last_write = ap (λ (ws : Changes). get_or ws (length writes) (0, [])) is ∙ get_or_push writes w (0, []) (length writes) refl

  at_end : tape_after first writes (length writes) ≡ changed writes first
  at_end = all_writes first writes (length writes) (omega arith)

  pub tape_later : changed later first ≡ set (changed writes first) w.0 w.1
  tape_later = ap (λ (ws : Changes). changed ws first) is ∙ changed_more writes w first

  keep : (k : ℕ) (c : Tape) → k ≤ length writes → LeftAt first writes k c → LeftAt first later k c
  keep k c le (inl now) = inl (now ∙ sym (earlier k le))
  keep k c le (inr torn) = inr (omega (arith, torn.0, longer), subst (λ (x : ℕ × List ℕ). Torn x.0 (tape_after first later k) c) (sym (same_write k torn.0)) (subst (λ (t : Tape). Torn (get_or writes k (0, [])).0 t c) (sym (earlier k le)) torn.1))

  before : (k : ℕ) (c : Tape) → k < length writes → LeftAt first later k c → LeftAt first writes k c
  before k c lt (inl now) = inl (now ∙ earlier k (omega (arith, lt)))
  before k c lt (inr torn) = inr (lt, subst (λ (x : ℕ × List ℕ). Torn x.0 (tape_after first writes k) c) (same_write k lt) (subst (λ (t : Tape). Torn (get_or later k (0, [])).0 t c) (earlier k (omega (arith, lt))) torn.1))

  at_last : (c : Tape) → LeftAt first later (length writes) c → (c ≡ changed writes first) ⊎ Torn w.0 (changed writes first) c
  at_last c (inl now) = inl (now ∙ earlier (length writes) (omega arith) ∙ at_end)
  at_last c (inr torn) = inr (subst (λ (x : ℕ × List ℕ). Torn x.0 (changed writes first) c) last_write (subst (λ (t : Tape). Torn (get_or later (length writes) (0, [])).0 t c) (earlier (length writes) (omega arith) ∙ at_end) torn.1))

  after_last : (t c : Tape) (k : ℕ) → k ≡ length writes + 1 → changed writes first ≡ t → length w.1 ≡ length (record_at t w.0) → w.0 < length t → LeftAt first later k c → Torn w.0 t c
  after_last t c k last same size within (inl now) =
      let all : tape_after first later k ≡ changed later first = all_writes first later k (omega (arith, last, longer)) in
      subst (Torn w.0 t) (sym (now ∙ all ∙ tape_later ∙ ap (λ (u : Tape). set u w.0 w.1) same)) (torn_by t w.0 w.1 size within)
  after_last t c k last same size within (inr torn) = absurd (omega (arith, torn.0, longer, last))

  past_or_last : (k n : ℕ) → (k ≡ n → ⊥) → k ≤ n + 1 → (k < n) ⊎ (k ≡ n + 1)
  past_or_last k n ne le = elim (cases_lt k n) [ inl lt ↦ inl lt | inr ge ↦ inr (omega (arith, ge, ne, le)) ]

  -- a write, whatever its answer, that is added to the list
  pub elapses_write : (tape : Tape) → tape ≡ changed writes first → length w.1 ≡ length (record_at tape w.0) → w.0 < length tape
      → Elapses (length writes) (length later) (LeftBy first writes) (LeftBy first later) (Some tape) (Torn w.0)
  elapses_write tape replays size within = record {
    later = omega (arith, longer);
    nothing_else = λ t told m c le by. place t (same_told tape t told) m c le by (cases_eq by.at (length writes));
    keeps = λ m c le by. record { at = by.at; since = by.since; made = omega (arith, by.made, longer); left = keep by.at c by.made by.left };
  }
    where
      rest : (t : Tape) → tape ≡ t → (m : ℕ) (c : Tape) → m ≤ length writes → (by : LeftBy first later m c) → (by.at < length writes) ⊎ (by.at ≡ length writes + 1) → LeftBy first writes m c ⊎ Torn w.0 t c
      rest t told m c le by (inl lt) = inl (record { at = by.at; since = by.since; made = omega (arith, lt); left = before by.at c lt by.left })
      rest t told m c le by (inr last) = inr (after_last t c by.at last (sym replays ∙ told) (size ∙ ap (λ (u : Tape). length (record_at u w.0)) told) (omega (arith, within, ap (λ (u : Tape). length u) told)) by.left)

      place : (t : Tape) → tape ≡ t → (m : ℕ) (c : Tape) → m ≤ length writes → (by : LeftBy first later m c) → (by.at ≡ length writes) ⊎ (by.at ≡ length writes → ⊥) → LeftBy first writes m c ⊎ Torn w.0 t c
      place t told m c le by (inl last) = elim (at_last c (subst (λ (k : ℕ). LeftAt first later k c) last by.left)) [
        | inl now ↦ inl (left_now first writes tape m c replays (now ∙ sym replays) le)
        | inr torn ↦ inr (subst (λ (u : Tape). Torn w.0 u c) (sym replays ∙ told) torn)
      ]
      place t told m c le by (inr ne) = rest t told m c le by (past_or_last by.at (length writes) ne (omega (arith, by.made, longer)))

-- the same between two values that hold the first tape
pub elapses_same_first : (first first₂ : Tape) (writes later : Changes) (w : ℕ × List ℕ) → first₂ ≡ first → later ≡ writes ++ w ∷ [] → (tape : Tape) → tape ≡ changed writes first
    → length w.1 ≡ length (record_at tape w.0) → w.0 < length tape → Elapses (length writes) (length later) (LeftBy first writes) (LeftBy first₂ later) (Some tape) (Torn w.0)
elapses_same_first first first₂ writes later w same is tape replays size within =
    subst (λ (f : Tape). Elapses (length writes) (length later) (LeftBy first writes) (LeftBy f later) (Some tape) (Torn w.0)) (sym same) (elapses_write first writes later w is tape replays size within)
