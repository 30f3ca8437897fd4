-- Journeys in two parts, places in lists that are put together, and lists of silent devices.
use Rattle.std.proofs.Common.{◌≡◌, ◌≤◌, ◌<◌, ◌+◌, ◌++◌, ℕ, zero, suc, List, [], ◌∷◌, None, length, refl, sym, ap, subst, ◌∙◌, arith}
use Rattle.il_device.specs.State.{DeviceState}
use Rattle.il_ring.specs.declared.plan.Planned.{Planned}
use Rattle.il_ring.specs.Journeys.{Trip, Journey}
use Rattle.il_ring.specs.Lists.{Each, First, AllSilent, NoneSends}
use Rattle.il_ring.proofs.PassKinds.{Silent}

-- past the devices ds, and then past the others
pub record Parts (plan : List Planned) (k : ℕ) (t u : Trip) (ds rest es : List DeviceState) : Type 0 where
  pub first : List DeviceState
  pub more : List DeviceState
  pub middle : Trip
  pub both : es ≡ first ++ more
  pub same : length first ≡ length ds
  pub to_middle : Journey plan k t ds middle first
  pub from_middle : Journey plan (k + length ds) middle rest u more

pub journey_parts : (plan : List Planned) (k : ℕ) (t u : Trip) (ds rest es : List DeviceState) → Journey plan k t (ds ++ rest) u es → Parts plan k t u ds rest es
journey_parts plan k t u [] rest es journey = record {
  first = [];
  more = es;
  middle = t;
  both = refl;
  same = refl;
  to_middle = refl;
  from_middle = let same : k + 0 ≡ k = omega arith in subst (λ k. Journey plan k t rest u es) (sym same) journey;
}
journey_parts plan k t u (d ∷ ds) rest (e ∷ es) journey =
    let parts = journey_parts plan (k + 1) journey.0 u ds rest es journey.2 in
    record {
      first = e ∷ parts.first;
      more = parts.more;
      middle = parts.middle;
      both = ap (λ xs. e ∷ xs) parts.both;
      same = ap suc parts.same;
      to_middle = (journey.0, journey.1, parts.to_middle);
      from_middle = let at : k + 1 + length ds ≡ k + length (d ∷ ds) = omega arith in subst (λ k. Journey plan k parts.middle rest u parts.more) at parts.from_middle;
    }
journey_parts plan k t u (d ∷ ds) rest [] journey = absurd journey

-- ---- one list put together in two ways

same_first : (x y : DeviceState) (xs ys : List DeviceState) → x ∷ xs ≡ y ∷ ys → x ≡ y
same_first x y xs ys same = ap (λ l. elim l [ [] ↦ x | z ∷ zs ↦ z ]) same

same_rest : (x y : DeviceState) (xs ys : List DeviceState) → x ∷ xs ≡ y ∷ ys → xs ≡ ys
same_rest x y xs ys same = ap (λ l. elim l [ [] ↦ xs | z ∷ zs ↦ zs ]) same

-- d lies before y
pub record LiesBefore (xs ys bs rest : List DeviceState) (y d : DeviceState) : Type 0 where
  pub between : List DeviceState
  pub first : xs ≡ bs ++ d ∷ between
  pub after : rest ≡ between ++ y ∷ ys

pub lies_before : (xs ys bs rest : List DeviceState) (y d : DeviceState) → xs ++ y ∷ ys ≡ bs ++ d ∷ rest → length bs < length xs → LiesBefore xs ys bs rest y d
lies_before [] ys bs rest y d same lt = absurd (omega (arith, lt))
lies_before (x ∷ xs) ys [] rest y d same lt = record {
  between = xs;
  first = ap (λ x. x ∷ xs) (same_first x d (xs ++ y ∷ ys) rest same);
  after = sym (same_rest x d (xs ++ y ∷ ys) rest same);
}
lies_before (x ∷ xs) ys (b ∷ bs) rest y d same lt =
    let more = lies_before xs ys bs rest y d (same_rest x b (xs ++ y ∷ ys) (bs ++ d ∷ rest) same) (omega (arith, lt)) in
    record {
      between = more.between;
      first = ap (λ x. x ∷ xs) (same_first x b (xs ++ y ∷ ys) (bs ++ d ∷ rest) same) ∙ ap (λ xs. b ∷ xs) more.first;
      after = more.after;
    }

-- d is y, if as many lie before the one as before the other
pub record LiesAt (xs ys bs rest : List DeviceState) (y d : DeviceState) : Type 0 where
  pub is : y ≡ d
  pub before : xs ≡ bs
  pub after : ys ≡ rest

pub lies_at : (xs ys bs rest : List DeviceState) (y d : DeviceState) → xs ++ y ∷ ys ≡ bs ++ d ∷ rest → length xs ≡ length bs → LiesAt xs ys bs rest y d
lies_at [] ys [] rest y d same at = record { is = same_first y d ys rest same; before = refl; after = same_rest y d ys rest same }
lies_at (x ∷ xs) ys (b ∷ bs) rest y d same at =
    let more = lies_at xs ys bs rest y d (same_rest x b (xs ++ y ∷ ys) (bs ++ d ∷ rest) same) (omega (arith, at)) in
    record {
      is = more.is;
      before = ap (λ x. x ∷ xs) (same_first x b (xs ++ y ∷ ys) (bs ++ d ∷ rest) same) ∙ ap (λ xs. b ∷ xs) more.before;
      after = more.after;
    }
lies_at [] ys (b ∷ bs) rest y d same at = absurd (omega (arith, at))
lies_at (x ∷ xs) ys [] rest y d same at = absurd (omega (arith, at))

-- ---- silent devices

pub each_silent : (k : ℕ) (ds : List DeviceState) → AllSilent ds → Each Silent k ds
each_silent k [] all = tt
each_silent k (d ∷ ds) all = (all.0, each_silent (k + 1) ds all.1)

pub silent_front : (xs ys : List DeviceState) → AllSilent (xs ++ ys) → AllSilent xs
silent_front [] ys all = tt
silent_front (x ∷ xs) ys all = (all.0, silent_front xs ys all.1)

-- those before y, if it lies no further than d, and all before d are silent
pub silent_up_to : (xs ys bs rest : List DeviceState) (y d : DeviceState) → xs ++ y ∷ ys ≡ bs ++ d ∷ rest → length xs ≤ length bs → AllSilent bs → AllSilent xs
silent_up_to [] ys bs rest y d same le all = tt
silent_up_to (x ∷ xs) ys [] rest y d same le all = absurd (omega (arith, le))
silent_up_to (x ∷ xs) ys (b ∷ bs) rest y d same le all = (
  ap (λ (d : DeviceState). d.roles.talks) (same_first x b (xs ++ y ∷ ys) (bs ++ d ∷ rest) same) ∙ all.0,
  silent_up_to xs ys bs rest y d (same_rest x b (xs ++ y ∷ ys) (bs ++ d ∷ rest) same) (omega (arith, le)) all.1,
)

-- ---- devices without own frames

pub none_sends_front : (xs ys : List DeviceState) → NoneSends (xs ++ ys) → NoneSends xs
none_sends_front [] ys none = tt
none_sends_front (x ∷ xs) ys none = (none.0, none_sends_front xs ys none.1)

pub none_sends_at : (bs rest : List DeviceState) (d : DeviceState) → NoneSends (bs ++ d ∷ rest) → d.own ≡ None
none_sends_at [] rest d none = none.0
none_sends_at (b ∷ bs) rest d none = none_sends_at bs rest d none.1

-- ---- silent devices after a frame

-- devices whose roles stay are silent still
pub silent_still : (R : DeviceState → DeviceState → Type 0) (j : ℕ) (ds es : List DeviceState) → ((d e : DeviceState) → R d e → e.roles ≡ d.roles) → First R j ds es → AllSilent ds
    → AllSilent es
silent_still R zero [] [] keeps took all = tt
silent_still R (suc j) [] [] keeps took all = tt
silent_still R zero (d ∷ ds) (e ∷ es) keeps took all = (ap (λ (d : DeviceState). d.roles.talks) took.0 ∙ all.0, silent_still R zero ds es keeps took.1 all.1)
silent_still R (suc j) (d ∷ ds) (e ∷ es) keeps took all = (ap (λ r. r.talks) (keeps d e took.0) ∙ all.0, silent_still R j ds es keeps took.1 all.1)
silent_still R j [] (e ∷ es) keeps took all = absurd took
silent_still R j (d ∷ ds) [] keeps took all = absurd took
