-- How the list of reads and writes goes on.
use Rattle.std.proofs.Common.{◌≡◌, ◌+◌, ◌++◌, ℕ, List, [], ◌∷◌, true, false, length, sym, subst, arith, append_assoc}
use Rattle.std.proofs.lemmas.List.{append-nil}
use Rattle.lif_model.specs.Transfers.{Transfer}
use Rattle.il_ports.specs.Transfers.{Added, CoversOnly, WritesOnly, GoesOnBy}

-- the lists that a store may have had
abbrev Lists : Type 1
Lists = List Transfer → Type 0

pub nothing_yet : (P : ℕ → Type 0) (old : Lists) → GoesOnBy P old old
nothing_yet P old = record { goes_on = λ list was. ([], subst old (sym (append-nil list)) was, tt) }

pub one_more : (P : ℕ → Type 0) (transfer : Transfer) (old new : Lists) → Added transfer old new → (transfer.writes ≡ true → CoversOnly P transfer) → GoesOnBy P old new
one_more P transfer old new added ok = record { goes_on = λ list was. (transfer ∷ [], added.at_end list was, (ok, tt)) }

-- a read writes nothing
pub one_read : (P : ℕ → Type 0) (first : ℕ) (bytes : List ℕ) (old new : Lists) → Added (record { writes = false; first = first; bytes = bytes }) old new → GoesOnBy P old new
one_read P first bytes old new added = one_more P (record { writes = false; first = first; bytes = bytes }) old new added (λ (writes : false ≡ true). cc)

both : (P : ℕ → Type 0) (xs ys : List Transfer) → WritesOnly P xs → WritesOnly P ys → WritesOnly P (xs ++ ys)
both P [] ys a b = b
both P (x ∷ xs) ys a b = (a.0, both P xs ys a.1 b)

pub then_more : (P : ℕ → Type 0) (old mid new : Lists) → GoesOnBy P old mid → GoesOnBy P mid new → GoesOnBy P old new
then_more P old mid new first next = record {
  goes_on = λ list was.
      let a = first.goes_on list was in
      let b = next.goes_on (list ++ a.0) a.1 in
      (a.0 ++ b.0, subst new (append_assoc list a.0 b.0) b.1, both P a.0 b.0 a.2 b.2);
}

widen : (P Q : ℕ → Type 0) (list : List Transfer) → ((n : ℕ) → P n → Q n) → WritesOnly P list → WritesOnly Q list
widen P Q [] wider only = tt
widen P Q (transfer ∷ list) wider only =
    (λ e. let c = only.0 e in record { count = c.count; whole = c.whole; each = λ k lt. wider _ (c.each k lt) }, widen P Q list wider only.1)

pub wider : (P Q : ℕ → Type 0) (old new : Lists) → ((n : ℕ) → P n → Q n) → GoesOnBy P old new → GoesOnBy Q old new
wider P Q old new more goes = record { goes_on = λ list was. let a = goes.goes_on list was in (a.0, a.1, widen P Q a.0 more a.2) }

-- a write of one whole record that has P
pub covers_one : (P : ℕ → Type 0) (first : ℕ) (bytes : List ℕ) → length bytes ≡ 256 → P first → CoversOnly P (record { writes = true; first = first; bytes = bytes })
covers_one P first bytes whole here = record {
  count = 1;
  whole = whole;
  each = λ k lt. let same : first ≡ first + k = omega (arith, lt) in subst P same here;
}
