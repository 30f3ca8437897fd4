-- How writes are added to the list of a store.
use Rattle.std.proofs.Common.{◌≡◌, ◌<◌, ◌+◌, ◌++◌, ◌∙◌, ℕ, List, [], ◌∷◌, Bool, true, false, if◌then◌else◌, length, get_or, take, refl, sym, ap, subst, append_assoc}
use Rattle.std.proofs.lemmas.List.{append-nil, take_more}
use Rattle.lif_model.specs.Transfers.{Transfer}
use Rattle.lif_model.specs.Redo.{Changes}
use Rattle.il_ports.specs.Transfers.{WritesOnly, GoesOnBy}
use Rattle.il_ports.proofs.Transfers.{covers_one}
use Rattle.lif_redo.specs.Writing.{writes_among, AreSingle, AddsWrites}

-- the lists that a store may have had
abbrev Lists : Type 1
Lists = List Transfer → Type 0

pub no_write : (old : Lists) → AddsWrites [] old old
no_write old = record { goes_on = λ list was. ([], subst old (sym (append-nil list)) was, refl, tt) }

-- ---- one after the other

writes_both : (xs ys : List Transfer) → writes_among (xs ++ ys) ≡ writes_among xs ++ writes_among ys
writes_both [] ys = refl
writes_both (x ∷ xs) ys = go x.writes (writes_both xs ys)
  where
    go : (b : Bool) → writes_among (xs ++ ys) ≡ writes_among xs ++ writes_among ys
        → (if b then (x.first, x.bytes) ∷ writes_among (xs ++ ys) else writes_among (xs ++ ys)) ≡ (if b then (x.first, x.bytes) ∷ writes_among xs else writes_among xs) ++ writes_among ys
    go true rest = ap (λ (ws : Changes). (x.first, x.bytes) ∷ ws) rest
    go false rest = rest

single_both : (xs ys : List Transfer) → AreSingle xs → AreSingle ys → AreSingle (xs ++ ys)
single_both [] ys a b = b
single_both (x ∷ xs) ys a b = (a.0, single_both xs ys a.1 b)

pub then_writes : (a b : Changes) (old mid new : Lists) → AddsWrites a old mid → AddsWrites b mid new → AddsWrites (a ++ b) old new
then_writes a b old mid new first next = record {
  goes_on = λ list was.
      let one = first.goes_on list was in
      let two = next.goes_on (list ++ one.0) one.1 in
      (one.0 ++ two.0, subst new (append_assoc list one.0 two.0) two.1, writes_both one.0 two.0 ∙ (λ d. one.2 d ++ two.2 d), single_both one.0 two.0 one.3 two.3);
}

-- the same writes, said otherwise
pub same_writes : (a b : Changes) (old new : Lists) → a ≡ b → AddsWrites a old new → AddsWrites b old new
same_writes a b old new is adds = subst (λ (ws : Changes). AddsWrites ws old new) is adds

-- ---- which records

abbrev pub EachWrite : (ℕ → Type 0) → Changes → Type 0
EachWrite P [] = Unit {0}
EachWrite P (w ∷ ws) = P w.0 × EachWrite P ws

pub each_both : (P : ℕ → Type 0) (a b : Changes) → EachWrite P a → EachWrite P b → EachWrite P (a ++ b)
each_both P [] b one two = two
each_both P (w ∷ ws) b one two = (one.0, each_both P ws b one.1 two)

each_tells : (P : ℕ → Type 0) (list : List Transfer) → AreSingle list → EachWrite P (writes_among list) → WritesOnly P list
each_tells P [] single each = tt
each_tells P (x ∷ xs) single each = go x.writes refl each (each_tells P xs single.1)
  where
    go : (b : Bool) → x.writes ≡ b → EachWrite P (if b then (x.first, x.bytes) ∷ writes_among xs else writes_among xs) → (EachWrite P (writes_among xs) → WritesOnly P xs) → WritesOnly P (x ∷ xs)
    go true e each rest = (λ _. let c = covers_one P x.first x.bytes single.0 each.0 in record { count = c.count; whole = c.whole; each = c.each }, rest each.1)
    go false e each rest = (λ on. let no : true ≡ false = sym on ∙ e in cc, rest each)

-- writes of such records alone
pub writes_only : (P : ℕ → Type 0) (ws : Changes) (old new : Lists) → EachWrite P ws → AddsWrites ws old new → GoesOnBy P old new
writes_only P ws old new each adds = record {
  goes_on = λ list was.
      let more = adds.goes_on list was in
      (more.0, more.1, each_tells P more.0 more.3 (subst (EachWrite P) (sym more.2) each));
}

-- ---- changes in place

-- one change more
pub take_writes : (cs : Changes) (i : ℕ) (old mid new : Lists) → i < length cs → AddsWrites (take i cs) old mid
    → AddsWrites (((get_or cs i (0, [])).0, (get_or cs i (0, [])).1) ∷ []) mid new → AddsWrites (take (i + 1) cs) old new
take_writes cs i old mid new lt first next = same_writes (take i cs ++ get_or cs i (0, []) ∷ []) (take (i + 1) cs) old new (sym (take_more cs i (0, []) lt)) (then_writes (take i cs) _ old mid new first next)
