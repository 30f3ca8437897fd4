-- Lists of faults, read item by item.
use Rattle.std.proofs.Common.{◌≡◌, ℕ, suc, ◌+◌, ◌-◌, ◌<◌, ◌==◌, nat_le, Bool, true, false, cond, List, [], ◌∷◌, ◌++◌, Option, Some, None, length, length-append, append_assoc, append-nil, refl, sym, ap, ap₂, ◌∙◌, arith, Bor}
use Rattle.std.specs.Option.{option_map}
use Rattle.std.specs.List.{slice_split}
use Rattle.std.specs.declared.str.Split.{Split}
use Rattle.std.specs.Str.Iter.{split_steps}
use Rattle.std.specs.Str.Pattern.{FindsChar}
use Rattle.std.proofs.lemmas.Bool.{le-leb}
use Rattle.std.proofs.lemmas.Bool.Decides.{nat_tests}
use Rattle.std.proofs.lemmas.Iterator.{YieldsList}
use Rattle.il_ring.specs.declared.plan.Planned.{Planned}
use Rattle.il_words.specs.declared.faults.FaultList.{FaultList}
use Rattle.il_words.specs.Faults.{item_in, joined, all_in, few_in, list_in}

-- more faults, after those that were read
abbrev pub behind : List Planned → Option (List Planned) → Option (List Planned)
behind faults more = option_map (λ new. faults ++ new) more

-- a list is cut at its commas
abbrev pub Cuts : Split ℕ → Option (Bor (List ℕ)) → Split ℕ → Type 0
Cuts = split_steps FindsChar (λ a b. b ≡ a)

-- the items that the cutting still gives make the list, with the faults that were read
pub record IsLeft (option : FaultList) (list : List ℕ) (faults : List Planned) (cutting : Split ℕ) : Type 0 where
  pub items : List (List ℕ)
  pub yields : YieldsList Cuts (λ item. item.now) cutting items
  pub read : behind faults (few_in option (64 - length faults) items) ≡ list_in option list

-- ---- the first item of a list

bad : (faults : List Planned) (b : Bool) (o : Option Planned) (more : Option (List Planned)) → o ≡ None → behind faults (cond b (joined o more) None) ≡ None
bad faults false o more e = refl
bad faults true None None e = refl
bad faults true None (Some new) e = refl
bad faults true (Some fault) more e = cc

good : (faults : List Planned) (fault : Planned) (b : Bool) (more : Option (List Planned))
    → behind faults (cond b (joined (Some fault) more) None) ≡ behind (faults ++ fault ∷ []) (cond b more None)
good faults fault false more = refl
good faults fault true None = refl
good faults fault true (Some new) = ap Some (sym (append_assoc faults (fault ∷ []) new))

one_fewer : (n read now : ℕ) → read < 64 → now ≡ read + 1 → nat_le (suc n) (64 - read) ≡ nat_le n (64 - now)
one_fewer n read now few e = grind (arith, nat_tests)

first_good : (option : FaultList) (faults : List Planned) (item : List ℕ) (items : List (List ℕ)) (fault : Planned) → item_in option item ≡ Some fault → length faults < 64
    → behind faults (few_in option (64 - length faults) (item ∷ items)) ≡ behind (faults ++ fault ∷ []) (few_in option (64 - length (faults ++ fault ∷ [])) items)
first_good option faults item items fault e few =
    let fits = one_fewer (length items) (length faults) (length (faults ++ fault ∷ [])) few (length-append faults (fault ∷ [])) in
    ap₂ (λ b o. behind faults (cond b (joined o (all_in option items)) None)) fits e ∙ good faults fault (nat_le (length items) (64 - length (faults ++ fault ∷ []))) (all_in option items)

-- ---- the cutting, from its start to its end

pub left-start : (option : FaultList) (list : List ℕ) (cutting : Split ℕ) → YieldsList Cuts (λ item. item.now) cutting (slice_split (λ byte. byte == 44) list)
    → IsLeft option list [] cutting
left-start option list cutting yields = record {
  items = slice_split (λ byte. byte == 44) list;
  yields = yields;
  read = none_before (list_in option list);
}
  where
    none_before : (o : Option (List Planned)) → behind [] o ≡ o
    none_before None = refl
    none_before (Some faults) = refl

-- an item that is none of the option's
pub left-bad : (option : FaultList) (list : List ℕ) (faults : List Planned) (cutting next : Split ℕ) (item : Bor (List ℕ))
    → IsLeft option list faults cutting → Cuts cutting (Some item) next → item_in option item.now ≡ None → list_in option list ≡ None
left-bad option list faults cutting next item left step e = go left.items left.yields left.read
  where
    go : (items : List (List ℕ)) → YieldsList Cuts (λ i. i.now) cutting items → behind faults (few_in option (64 - length faults) items) ≡ list_in option list → list_in option list ≡ None
    go [] yields read = absurd (yields.runs item next step)
    go (first ∷ items) yields read =
        let same : item.now ≡ first = (yields.runs.1 item next step).0 in
        sym read ∙ bad faults (nat_le (length (first ∷ items)) (64 - length faults)) (item_in option first) (all_in option items) (ap (item_in option) (sym same) ∙ e)

-- an item that was read
pub left-more : (option : FaultList) (list : List ℕ) (faults : List Planned) (cutting next : Split ℕ) (item : Bor (List ℕ)) (fault : Planned)
    → IsLeft option list faults cutting → Cuts cutting (Some item) next → item_in option item.now ≡ Some fault → length faults < 64
    → IsLeft option list (faults ++ fault ∷ []) next
left-more option list faults cutting next item fault left step e few = go left.items left.yields left.read
  where
    go : (items : List (List ℕ)) → YieldsList Cuts (λ i. i.now) cutting items → behind faults (few_in option (64 - length faults) items) ≡ list_in option list → IsLeft option list (faults ++ fault ∷ []) next
    go [] yields read = absurd (yields.runs item next step)
    go (first ∷ items) yields read =
        let same : item.now ≡ first = (yields.runs.1 item next step).0 in
        record {
          items = items;
          yields = record { runs = (yields.runs.1 item next step).1 };
          read = sym (first_good option faults first items fault (ap (item_in option) (sym same) ∙ e) few) ∙ read;
        }

-- after the last item
pub left-end : (option : FaultList) (list : List ℕ) (faults : List Planned) (cutting next : Split ℕ) → IsLeft option list faults cutting → Cuts cutting None next → Some faults ≡ list_in option list
left-end option list faults cutting next left step = go left.items left.yields left.read
  where
    go : (items : List (List ℕ)) → YieldsList Cuts (λ i. i.now) cutting items → behind faults (few_in option (64 - length faults) items) ≡ list_in option list → Some faults ≡ list_in option list
    go [] yields read =
        ap Some (sym (append-nil faults)) ∙ ap (λ b. behind faults (cond b (Some []) None)) (sym (le-leb 0 (64 - length faults) (omega arith))) ∙ read
    go (first ∷ items) yields read = absurd (yields.runs.0 next step)
