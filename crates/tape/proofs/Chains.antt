-- A job on several images, one image more at a time.
use Rattle.std.proofs.Common.{◌≡◌, ◌⊎◌, ◌≤◌, ◌<◌, ◌∙◌, ◌&&◌, ◌||◌, ◌==◌, ◌+◌, Bor, get_or, map, take, drop, inl, inr, ℕ, suc, Bool, true, false, List, [], ◌∷◌, ◌++◌, Option, Some, None, length, refl, sym, ap, subst, arith, eqb-true, append-nil}
use Rattle.std.specs.Prelude.{find, if◌then◌else◌}
use Rattle.std.specs.List.{list_all}
use Rattle.std.specs.Option.{option_or}
use Rattle.std.proofs.Math.ListN.{get_or-map}
use Rattle.std.proofs.Math.Seq.{take-length, take-suc}
use Rattle.std.proofs.lemmas.List.{length-map, nil_from_length, take-append-drop}
use Rattle.std.proofs.lemmas.List.Folds.{find-append, list_all-append}
use Rattle.tape_volumes.specs.declared.ending.Ending.{Ending}
use Rattle.tape_volumes.specs.Endings.{is_done, is_last, ending_status}
use Rattle.tape_volumes.specs.Outputs.{Written}
use Rattle.tape_drives.specs.Lending.{Lending, LendsOn}
use Rattle.tape.specs.Images.{DriveSight, MediumSight}
use Rattle.tape.proofs.Lends.{listed_on}
use Rattle.tape.specs.Several.{AreListed, DirsEnd, ImageListed, status_for, status_or}

-- ---- the exit status

-- the endings, none of which was the job's, and then one that is
last_found : (ends : List Ending) (e : Ending) → find is_last ends ≡ None → is_last e ≡ true → find is_last (ends ++ e ∷ []) ≡ Some e
last_found ends e none last = find-append is_last ends (e ∷ []) ∙ ap (λ (o : Option Ending). option_or o (find is_last (e ∷ []))) none ∙ rw last refl

not_found : (ends : List Ending) (e : Ending) → find is_last ends ≡ None → is_last e ≡ false → find is_last (ends ++ e ∷ []) ≡ None
not_found ends e none other = find-append is_last ends (e ∷ []) ∙ ap (λ (o : Option Ending). option_or o (find is_last (e ∷ []))) none ∙ rw other refl

all_more : (ends : List Ending) (e : Ending) → list_all is_done (ends ++ e ∷ []) ≡ (list_all is_done ends && is_done e)
all_more ends e = list_all-append is_done ends (e ∷ []) ∙ ap (λ (b : Bool). list_all is_done ends && b) (and_true (is_done e))
  where
    and_true : (b : Bool) → (b && true) ≡ b
    and_true true = refl
    and_true false = refl

by_first : (e : Ending) (ends : List Ending) (last : Bool) → is_last e ≡ last → find is_last (e ∷ ends) ≡ None → (last ≡ false) × (find is_last ends ≡ None)
by_first e ends true is none = let clash : Some e ≡ None = sym (rw is refl) ∙ none in cc
by_first e ends false is none = (refl, sym (rw is refl) ∙ none)

-- an ending that is the job's is the last one
last_only : (ends : List Ending) (final : Ending) (before : List Ending) (e : Ending) (after : List Ending) → ends ++ final ∷ [] ≡ before ++ e ∷ after → find is_last ends ≡ None → is_last e ≡ true → after ≡ []
last_only [] final [] e after same none last = cc
last_only [] final (b ∷ []) e after same none last = cc
last_only [] final (b ∷ c ∷ before) e after same none last = cc
last_only (f ∷ ends) final [] e after same none last =
    let head : f ≡ e = cc in
    let is : is_last f ≡ true = ap is_last head ∙ last in
    let clash : Some f ≡ None = sym (rw is refl) ∙ none in cc
last_only (f ∷ ends) final (b ∷ before) e after same none last =
    let tail : ends ++ final ∷ [] ≡ before ++ e ∷ after = cc in
    last_only ends final before e after tail (by_first f ends (is_last f) refl none).1 last

none_last : (ends : List Ending) (before : List Ending) (e : Ending) (after : List Ending) → ends ≡ before ++ e ∷ after → find is_last ends ≡ None → is_last e ≡ true → after ≡ []
none_last [] [] e after same none last = cc
none_last [] (b ∷ before) e after same none last = cc
none_last (f ∷ ends) [] e after same none last =
    let head : f ≡ e = cc in
    let is : is_last f ≡ true = ap is_last head ∙ last in
    let clash : Some f ≡ None = sym (rw is refl) ∙ none in cc
none_last (f ∷ ends) (b ∷ before) e after same none last =
    let tail : ends ≡ before ++ e ∷ after = cc in
    none_last ends before e after tail (by_first f ends (is_last f) refl none).1 last

-- all images were listed
status_at_end : (count : ℕ) (ends : List Ending) (done : Bool) → ((count == 1) ≡ true → ends ≡ []) → find is_last ends ≡ None → done ≡ list_all is_done ends
    → (if done then 0 else 1) ≡ status_for count ends
status_at_end count [] done one none is = rw is refl
status_at_end count (e ∷ []) done one none is = by (count == 1) refl
  where
    by : (b : Bool) → (count == 1) ≡ b → (if done then 0 else 1) ≡ status_for count (e ∷ [])
    by true same = let empty : e ∷ [] ≡ [] = one same in cc
    by false other = rw other (rw none (rw is refl))
status_at_end count (e ∷ f ∷ ends) done one none is = rw none (rw is refl)

-- the job ended on this image: it is the only one, or standard output or memory was lost
status_early : (count : ℕ) (ends : List Ending) (e : Ending) → ((count == 1) ≡ true → ends ≡ []) → find is_last ends ≡ None → ((count == 1) ≡ true) ⊎ (is_last e ≡ true)
    → ending_status e ≡ status_for count (ends ++ e ∷ [])
status_early count [] e one none why = by (count == 1) refl why
  where
    by : (b : Bool) → (count == 1) ≡ b → ((count == 1) ≡ true) ⊎ (is_last e ≡ true) → ending_status e ≡ status_for count (e ∷ [])
    by true same why = rw same refl
    by false other (inl same) = let clash : false ≡ true = sym other ∙ same in cc
    by false other (inr last) = rw other (rw last refl)
status_early count (f ∷ ends) e one none (inl same) = let empty : f ∷ ends ≡ [] = one same in cc
status_early count (f ∷ []) e one none (inr last) = ap (λ (o : Option Ending). status_or o (list_all is_done (f ∷ e ∷ []))) (sym (last_found (f ∷ []) e none last))
status_early count (f ∷ g ∷ ends) e one none (inr last) =
    ap (λ (o : Option Ending). status_or o (list_all is_done ((f ∷ g ∷ ends) ++ e ∷ []))) (sym (last_found (f ∷ g ∷ ends) e none last))

module _ {M : Type 0} (drives : DriveSight M) (csv all : Bool) (names : List (List ℕ)) where
  listed_more : (first : List (List ℕ)) (ends : List Ending) (name : List ℕ) (e : Ending) (old between now : Written)
      → AreListed drives csv (length names) all first ends old between → ImageListed drives csv (length names) all name e between now
      → AreListed drives csv (length names) all (first ++ name ∷ []) (ends ++ e ∷ []) old now
  listed_more [] [] name e old between now are one = (now, subst (λ w. ImageListed drives csv (length names) all name e w now) are one, refl)
  listed_more [] (f ∷ ends) name e old between now are one = absurd are
  listed_more (n ∷ first) [] name e old between now are one = absurd are
  listed_more (n ∷ first) (f ∷ ends) name e old between now are one = (are.0, are.1, listed_more first ends name e are.0 between now are.2 one)

  -- the first of these images were listed, and the job goes on
  pub record ListedSoFar (first : List (List ℕ)) (old now : Written) (done : Bool) : Type 0 where
    pub ends : List Ending
    pub listed : AreListed drives csv (length names) all first ends old now
    pub one : (length names == 1) ≡ true → ends ≡ []
    pub none : find is_last ends ≡ None
    pub done_is : done ≡ list_all is_done ends

  pub so_far_start : (old : Written) → ListedSoFar [] old old true
  so_far_start old = record { ends = []; listed = refl; one = λ same. refl; none = refl; done_is = refl }

  pub so_far_more : (first : List (List ℕ)) (name : List ℕ) (e : Ending) (old between now : Written) (done : Bool) → ListedSoFar first old between done
      → ImageListed drives csv (length names) all name e between now → (length names == 1) ≡ false → is_last e ≡ false → ListedSoFar (first ++ name ∷ []) old now (done && is_done e)
  so_far_more first name e old between now done sofar listed several other = record {
    ends = sofar.ends ++ e ∷ [];
    listed = listed_more first sofar.ends name e old between now sofar.listed listed;
    one = λ same. let clash : false ≡ true = sym several ∙ same in cc;
    none = not_found sofar.ends e sofar.none other;
    done_is = ap (λ (b : Bool). b && is_done e) sofar.done_is ∙ sym (all_more sofar.ends e);
  }

  -- none is left
  pub ends_all : (old now : Written) (done : Bool) → ListedSoFar names old now done → DirsEnd drives csv all names (if done then 0 else 1) old now
  ends_all old now done sofar = record {
    first = names;
    rest = [];
    are = sym (append-nil names);
    ends = sofar.ends;
    listed = sofar.listed;
    whole = λ none. refl;
    ended = λ before e after same last. none_last sofar.ends before e after same sofar.none last;
    status_is = status_at_end (length names) sofar.ends done sofar.one sofar.none sofar.done_is;
  }

  none_first : (first : List (List ℕ)) (old now : Written) → AreListed drives csv (length names) all first [] old now → first ≡ []
  none_first [] old now are = refl
  none_first (n ∷ first) old now are = absurd are

  -- the job ends on this image
  pub ends_early : (first : List (List ℕ)) (name : List ℕ) (rest : List (List ℕ)) (e : Ending) (old between now : Written) (done : Bool) → names ≡ (first ++ name ∷ []) ++ rest
      → ListedSoFar first old between done → ImageListed drives csv (length names) all name e between now → ((length names == 1) ≡ true) ⊎ (is_last e ≡ true)
      → DirsEnd drives csv all names (ending_status e) old now
  ends_early first name rest e old between now done are sofar listed why = record {
    first = first ++ name ∷ [];
    rest = rest;
    are = are;
    ends = sofar.ends ++ e ∷ [];
    listed = listed_more first sofar.ends name e old between now sofar.listed listed;
    whole = λ none. by why none;
    ended = λ before f after same last. last_only sofar.ends e before f after same sofar.none last;
    status_is = status_early (length names) sofar.ends e sofar.one sofar.none why;
  }
    where
      by : ((length names == 1) ≡ true) ⊎ (is_last e ≡ true) → find is_last (sofar.ends ++ e ∷ []) ≡ None → rest ≡ []
      by (inl same) none =
          let empty = none_first first old between (subst (λ ends. AreListed drives csv (length names) all first ends old between) (sofar.one same) sofar.listed) in
          let alone : names ≡ name ∷ rest = are ∙ ap (λ (l : List (List ℕ)). (l ++ name ∷ []) ++ rest) empty in
          let one = eqb-true (length (name ∷ rest)) 1 (sym (ap (λ (l : List (List ℕ)). length l == 1) alone) ∙ same) in
          nil_from_length rest (omega (arith, one))
      by (inr last) none = let clash : Some e ≡ None = sym (last_found sofar.ends e sofar.none last) ∙ none in cc

-- more drives were lent
pub so_far_on : {M : Type 0} (media : MediumSight M) (before now later : Lending M) → LendsOn now later → (csv all : Bool) (names first : List (List ℕ)) (old written : Written) (done : Bool)
    → ListedSoFar (record { media = media; before = before; now = now }) csv all names first old written done
    → ListedSoFar (record { media = media; before = before; now = later }) csv all names first old written done
so_far_on media before now later on csv all names first old written done sofar = record {
  ends = sofar.ends;
  listed = listed_on media before now before later on csv (length names) all first sofar.ends old written sofar.listed;
  one = sofar.one;
  none = sofar.none;
  done_is = sofar.done_is;
}

-- ---- over the names in memory

module _ {M : Type 0} (drives : DriveSight M) (csv all : Bool) (texts : List (Bor (List ℕ))) where
  abbrev pub names : List (List ℕ)
  names = map (λ text. text.now) texts

  as_many : length names ≡ length texts
  as_many = length-map texts (λ text. text.now)

  module _ (i : ℕ) (d : Bor (List ℕ)) (within : i < length texts) where
    abbrev pub name : List ℕ
    name = (get_or texts i d).now

    one_more : take (i + 1) names ≡ take i names ++ name ∷ []
    one_more =
        let next : i + 1 ≡ suc i = omega arith in
        let inside : i < length names = omega (arith, within, as_many) in
        ap (λ (k : ℕ). take k names) next ∙ take-suc names i d.now inside ∙ ap (λ (x : List ℕ). take i names ++ x ∷ []) (get_or-map (λ text. text.now) texts i d)

    split_here : names ≡ (take i names ++ name ∷ []) ++ drop (i + 1) names
    split_here = sym (take-append-drop (i + 1) names) ∙ ap (λ (l : List (List ℕ)). l ++ drop (i + 1) names) one_more

    either_true : (a b : Bool) → (a || b) ≡ true → (a ≡ true) ⊎ (b ≡ true)
    either_true true b e = inl refl
    either_true false b e = inr e

    neither_true : (a b : Bool) → (a || b) ≡ false → (a ≡ false) × (b ≡ false)
    neither_true true b e = cc
    neither_true false b e = (refl, e)

    module _ (e : Ending) (old between now : Written) (done : Bool) (sofar : ListedSoFar drives csv all names (take i names) old between done)
        (one : ImageListed drives csv (length texts) all name e between now) where
      listed_here : ImageListed drives csv (length names) all name e between now
      listed_here = subst (λ k. ImageListed drives csv k all name e between now) (sym as_many) one

      count_is : (length names == 1) ≡ (length texts == 1)
      count_is = ap (λ (k : ℕ). k == 1) as_many

      -- the job ends on this image
      pub ends_here : (status : ℕ) → status ≡ ending_status e → ((length texts == 1) || is_last e) ≡ true → DirsEnd drives csv all names status old now
      ends_here status is why =
          let which : ((length names == 1) || is_last e) ≡ true = ap (λ (b : Bool). b || is_last e) count_is ∙ why in
          subst (λ (s : ℕ). DirsEnd drives csv all names s old now) (sym is)
          (ends_early drives csv all names (take i names) name (drop (i + 1) names) e old between now done split_here sofar listed_here (either_true (length names == 1) (is_last e) which))

      -- the job goes on
      pub goes_on : (is_done_now : Bool) → is_done_now ≡ (done && is_done e) → ((length texts == 1) || is_last e) ≡ false
          → ListedSoFar drives csv all names (take (i + 1) names) old now is_done_now
      goes_on is_done_now is why =
          let which : ((length names == 1) || is_last e) ≡ false = ap (λ (b : Bool). b || is_last e) count_is ∙ why in
          let both = neither_true (length names == 1) (is_last e) which in
          subst (λ (b : Bool). ListedSoFar drives csv all names (take (i + 1) names) old now b) (sym is)
          (subst (λ (l : List (List ℕ)). ListedSoFar drives csv all names l old now (done && is_done e)) (sym one_more)
          (so_far_more drives csv all names (take i names) name e old between now done sofar listed_here both.0 both.1))

  -- none is left
  pub ends_after : (i : ℕ) → i ≤ length texts → length texts ≤ i → (old now : Written) (done : Bool) (status : ℕ) → status ≡ (if done then 0 else 1) → ListedSoFar drives csv all names (take i names) old now done
      → DirsEnd drives csv all names status old now
  ends_after i within past old now done status is sofar =
      let whole : take i names ≡ names = ap (λ (k : ℕ). take k names) (omega (arith, within, past, as_many)) ∙ take-length names in
      subst (λ (s : ℕ). DirsEnd drives csv all names s old now) (sym is)
      (ends_all drives csv all names old now done (subst (λ (l : List (List ℕ)). ListedSoFar drives csv all names l old now done) whole sofar))
