-- How the steps of a job add up.
use Rattle.std.proofs.Common.{◌≡◌, ◌⊎◌, inl, inr, ⊎_elim, ◌≤◌, ◌++◌, ◌∙◌, ℕ, zero, suc, Bool, true, false, List, [], ◌∷◌, Option, Some, refl, sym, ap, subst, append_assoc, arith}
use Rattle.std.specs.Prelude.{◌<◌, ◌+◌, is_some, drop, get_or, length, take}
use Rattle.std.proofs.lemmas.Grind.{fold-append}
use Rattle.std.proofs.lemmas.List.{append-nil, drop_more, length-map, map_more, take-map}
use Rattle.lif_model.specs.Apply.{VolumeCommand}
use Rattle.lif_model.specs.Shelf.{Shelf}
use Rattle.lif_model.specs.Stops.{LeavesOnly}
use Rattle.lif_model.specs.Tape.{Tape}
use Rattle.lif_model.specs.Volume.{Volume}
use Rattle.il_ports.specs.Inserting.{OthersAreKept}
use Rattle.il_script.specs.declared.reply.Reply.{Reply}
use Rattle.tape_volumes.specs.Volumes.{CommandDid, Mounted, OwnsGate, StaysBeside, StopLeaves, VolumesView, volume_seen}
use Rattle.tape_changes.specs.declared.changing.Step.{Step}
use Rattle.tape_changes.specs.declared.changing.Next.{Next}
use Rattle.tape_changes.specs.declared.changing.Next.TheVariants as next
use Rattle.tape_changes.specs.Changing.{Attempt, AttemptLeaves, Follows, FrontIsLeft, NextBy, Output, StepTaken, StepTried, StepsTaken, after, attempt_of, attempted, attempts_of, says_exists}
use Rattle.tape_changes.proofs.Attempts.{done_attempt, left_first, left_then, tried_own, tried_seen, tried_size}

-- ---- the steps so far

-- if these steps are taken from here on, all are taken, with the replies so far and then theirs
abbrev pub Joins : (early : Bool) → (all steps : List Step) → (done : List Reply) → (s u : Mounted) (old told : Output) → Type 0
Joins early all steps done s u old told =
    (replies : List Reply) (lost : Bool) (t : Mounted) (now : Output) → StepsTaken early steps replies lost u t told now → StepsTaken early all (done ++ replies) lost s t old now

module _ (early : Bool) (all steps : List Step) (done : List Reply) (s u : Mounted) (old told : Output) (joins : Joins early all steps done s u old told) where
  pub joins_next : (step : Step) (more : List Step) (r : Reply) (items : List Reply) (w : Mounted) (now : Output) → steps ≡ step ∷ more → items ≡ done ++ r ∷ []
      → StepTaken early step r next.GoesOn u w told now → Joins early all more items s w old now
  joins_next step more r items w now split is taken replies lost t last rest =
      subst (λ (l : List Reply). StepsTaken early all l lost s t old last) (sym (ap (λ (l : List Reply). l ++ replies) is ∙ append_assoc done (r ∷ []) replies))
      (joins (r ∷ replies) lost t last (subst (λ (l : List Step). StepsTaken early l (r ∷ replies) lost u t told last) (sym split) (next.GoesOn, w, now, taken, rest)))

  pub joins_last : (step : Step) (more : List Step) (r : Reply) (items : List Reply) (w : Mounted) (now : Output) (n : Next) (lost : Bool) → steps ≡ step ∷ more → items ≡ done ++ r ∷ []
      → StepTaken early step r n u w told now → Follows n (StepsTaken early more [] lost w w now now) [] lost w w now now → StepsTaken early all items lost s w old now
  joins_last step more r items w now n lost split is taken follows =
      subst (λ (l : List Reply). StepsTaken early all l lost s w old now) (sym is)
      (joins (r ∷ []) lost w now (subst (λ (l : List Step). StepsTaken early l (r ∷ []) lost u w told now) (sym split) (n, w, now, taken, follows)))

  pub joins_all : steps ≡ [] → StepsTaken early all done false s u old told
  joins_all none =
      subst (λ (l : List Reply). StepsTaken early all l false s u old told) (append-nil done)
      (joins [] false u told (subst (λ (l : List Step). StepsTaken early l [] false u u told told) (sym none) (refl, refl, refl)))

pub joins_none : (early : Bool) (all steps : List Step) (done : List Reply) (s : Mounted) (old : Output) → done ≡ [] → steps ≡ all → Joins early all steps done s s old old
joins_none early all steps done s old none same replies lost t now taken =
    subst (λ (l : List Reply). StepsTaken early all (l ++ replies) lost s t old now) (sym none) (subst (λ (l : List Step). StepsTaken early l replies lost s t old now) same taken)

after_it : (n : Next) (rest : Type 0) (replies : List Reply) (lost : Bool) (s t : Mounted) (old now : Output) → (rest → t.records ≡ s.records) → Follows n rest replies lost s t old now → t.records ≡ s.records
after_it next.GoesOn rest replies lost s t old now by follows = by follows
after_it next.Ends rest replies lost s t old now by follows = ap (λ (m : Mounted). m.records) follows.2
after_it next.LosesOutput rest replies lost s t old now by follows = ap (λ (m : Mounted). m.records) follows.2

-- the medium keeps its size
pub size_kept : (early : Bool) (steps : List Step) (replies : List Reply) (lost : Bool) (s t : Mounted) (old now : Output) → StepsTaken early steps replies lost s t old now → t.records ≡ s.records
size_kept early [] [] lost s t old now taken = ap (λ (m : Mounted). m.records) taken.1
size_kept early [] (r ∷ replies) lost s t old now taken = absurd taken
size_kept early (step ∷ steps) [] lost s t old now taken = absurd taken
size_kept early (step ∷ steps) (r ∷ replies) lost s t old now (n, u, told, first, follows) =
    after_it n _ replies lost u t told now (size_kept early steps replies lost u t told now) follows ∙ tried_size _ _ _ _ first.tried

-- ---- the volume after a front of the attempts

-- These attempts were made or refused, without a fault.
pub record IsAfter (attempts : List Attempt) (s u : Mounted) : Type 0 where
  pub records : u.records ≡ s.records
  pub seen : is_some u.tape ≡ is_some s.tape
  pub own : OwnsGate s.tape → OwnsGate u.tape
  pub volume : is_some s.tape ≡ true → OwnsGate s.tape → volume_seen u.tape ≡ after s.records attempts (volume_seen s.tape)

pub after_none : (attempts : List Attempt) (s : Mounted) → attempts ≡ [] → IsAfter attempts s s
after_none attempts s none = record {
  records = refl;
  seen = refl;
  own = λ own. own;
  volume = λ told own. sym (ap (λ (l : List Attempt). after s.records l (volume_seen s.tape)) none);
}

module _ (all front : List Attempt) (a : Attempt) (is : all ≡ front ++ a ∷ []) (s u : Mounted) (before : IsAfter front s u) where
  one_more : is_some s.tape ≡ true → OwnsGate s.tape → attempted u.records a (volume_seen u.tape) ≡ after s.records all (volume_seen s.tape)
  one_more told own =
      (λ j. attempted (before.records j) a (before.volume told own j))
      ∙ sym (ap (λ (l : List Attempt). after s.records l (volume_seen s.tape)) is ∙ fold-append (λ (v : Option Volume) (a : Attempt). attempted s.records a v) (volume_seen s.tape) front (a ∷ []))

  pub after_next : (step : Step) → attempt_of step ≡ a → (early : Bool) (r : Reply) (line : List ℕ) (w : Mounted) (old now : Output) → StepTried step r u w
      → NextBy early r line next.GoesOn old.text now.text old.faults now.faults → IsAfter all s w
  after_next step that early r line w old now tried tells = record {
    records = tried_size step r u w tried ∙ before.records;
    seen = tried_seen step r u w tried ∙ before.seen;
    own = λ own. tried_own step r u w tried (before.own own);
    volume = λ told own.
        done_attempt step u early r line w old now tells (before.seen ∙ told) tried
        ∙ ap (λ (b : Attempt). attempted u.records b (volume_seen u.tape)) that ∙ one_more told own;
  }

  -- a power stop within the next attempt
  pub left_next : (attempts : List Attempt) (i : ℕ) → i < length attempts → front ≡ take i attempts → all ≡ take (i + 1) attempts → is_some s.tape ≡ true
      → (x : Tape) → AttemptLeaves a u x → FrontIsLeft attempts s x
  left_next attempts i lt fronts alls told x left own =
      ⊎_elim (λ same. (i, omega (arith, lt), same ∙ before.volume told own ∙ ap (λ (l : List Attempt). after s.records l (volume_seen s.tape)) fronts))
      (λ made. (i + 1, omega (arith, lt), made ∙ one_more told own ∙ ap (λ (l : List Attempt). after s.records l (volume_seen s.tape)) alls)) (left (before.own own))

-- a step, and those after it
pub step_next : (steps : List Step) (i : ℕ) (step : Step) → i < length steps → step ≡ get_or steps i step → drop i steps ≡ step ∷ drop (i + 1) steps
step_next steps i step lt is = drop_more steps i step lt ∙ ap (λ (s : Step). s ∷ drop (i + 1) steps) (sym is)

pub attempts_next : (steps : List Step) (i : ℕ) (step : Step) → i < length steps → step ≡ get_or steps i step
    → take (i + 1) (attempts_of steps) ≡ take i (attempts_of steps) ++ attempt_of step ∷ []
attempts_next steps i step lt is =
    let f = attempt_of in
    take-map f (i + 1) steps ∙ map_more f steps i step lt ∙ ap (λ (l : List Attempt). l ++ f (get_or steps i step) ∷ []) (sym (take-map f i steps))
    ∙ ap (λ (s : Step). take i (attempts_of steps) ++ f s ∷ []) (sym is)

pub left_at : (steps : List Step) (i : ℕ) (step : Step) (s u : Mounted) → i < length steps → step ≡ get_or steps i step → IsAfter (take i (attempts_of steps)) s u → is_some s.tape ≡ true
    → (x : Tape) → AttemptLeaves (attempt_of step) u x → FrontIsLeft (attempts_of steps) s x
left_at steps i step s u lt is before told x left =
    left_next (take (i + 1) (attempts_of steps)) (take i (attempts_of steps)) _ (attempts_next steps i step lt is) s u before (attempts_of steps) i
    (omega (arith, lt, length-map steps attempt_of)) refl refl told x left

-- ---- beside the tape, and after power stops

-- After i steps nothing changed beside the tape, and each tape that a stop may have left has the property `leaves`, or
-- could be left before.
pub record GoesBeside (i : ℕ) (leaves : Tape → Type 0) (v w : VolumesView) : Type 0 where
  pub start : i ≡ 0 → w.moment ≡ v.moment
  pub later : is_some v.mounted.tape ≡ true → v.moment ≤ w.moment
  pub each : 0 < i → is_some v.mounted.tape ≡ true → (x : Tape) → w.left_since v.moment x → leaves x
  pub earlier : is_some v.mounted.tape ≡ true → (m : ℕ) (x : Tape) → m ≤ v.moment → w.left_since m x → v.left_since m x ⊎ leaves x
  pub same : w.inside ≡ v.inside
  pub others : OthersAreKept v.inside v.images w.images

pub beside_none : (P : Tape → Type 0) (v : VolumesView) → GoesBeside 0 P v v
beside_none P v = record {
  start = λ none. refl;
  later = λ told. omega arith;
  each = λ lt. absurd (omega (arith, lt));
  earlier = λ told m x le left. inl left;
  same = refl;
  others = λ name s is old. (s, old, λ other not. refl);
}

others_on : (a b : Option (List ℕ)) (x y z : Option Shelf) → b ≡ a → OthersAreKept a x y → OthersAreKept b y z → OthersAreKept a x z
others_on a b x y z same first last name s is old =
    let u = first name s is old in
    let w = last name u.0 (same ∙ is) u.1 in
    (w.0, w.1, λ other not. w.2 other not ∙ u.2 other not)

each_next : (i : ℕ) (P Q : Tape → Type 0) (v u w : VolumesView) → is_some v.mounted.tape ≡ true → ((x : Tape) → Q x → P x) → GoesBeside i P v u
    → LeavesOnly u.moment w.moment u.left_since w.left_since Q → (x : Tape) → w.left_since v.moment x → P x
each_next zero P Q v u w told weak a b x left = weak x (b.each x (subst (λ (m : ℕ). w.left_since m x) (sym (a.start refl)) left))
each_next (suc i) P Q v u w told weak a b x left = ⊎_elim (a.each (omega arith) told x) (weak x) (b.earlier v.moment x (a.later told) left)

-- one step more
pub beside_next : (i : ℕ) (P Q : Tape → Type 0) (v u w : VolumesView) → is_some u.mounted.tape ≡ is_some v.mounted.tape → (is_some v.mounted.tape ≡ true → (x : Tape) → Q x → P x)
    → GoesBeside i P v u → StaysBeside Q u w → StaysBeside P v w
beside_next i P Q v u w seen weak a b = record {
  stops = λ told. record {
    later = omega (arith, a.later told, (b.stops (seen ∙ told)).later);
    each = each_next i P Q v u w told (weak told) a (b.stops (seen ∙ told));
    earlier = λ m x le left. ⊎_elim (a.earlier told m x le) (λ is. inr (weak told x is)) ((b.stops (seen ∙ told)).earlier m x (omega (arith, le, a.later told)) left);
  };
  same = b.same ∙ a.same;
  others = others_on v.inside u.inside v.images u.images w.images a.same a.others b.others;
}

pub beside_on : (i : ℕ) (P : Tape → Type 0) (v w : VolumesView) → StaysBeside P v w → GoesBeside (i + 1) P v w
beside_on i P v w b = record {
  start = λ none. absurd (omega (arith, none));
  later = λ told. (b.stops told).later;
  each = λ lt told. (b.stops told).each;
  earlier = λ told. (b.stops told).earlier;
  same = b.same;
  others = b.others;
}

pub beside_all : (i : ℕ) (P : Tape → Type 0) (v w : VolumesView) → 0 < i → GoesBeside i P v w → StaysBeside P v w
beside_all i P v w lt a = record {
  stops = λ told. record { later = a.later told; each = a.each lt told; earlier = a.earlier told };
  same = a.same;
  others = a.others;
}

-- ---- a step

module _ (a : Attempt) (r : Reply) (v u : VolumesView) (did : CommandDid a.command r v.mounted u.mounted) (beside : StaysBeside (StopLeaves a.command v.mounted) v u) where
  -- the first command alone
  pub beside_first : StaysBeside (AttemptLeaves a v.mounted) v u
  beside_first =
      beside_next 0 (AttemptLeaves a v.mounted) (StopLeaves a.command v.mounted) v v u refl (λ told x left. left_first a v.mounted x left) (beside_none (AttemptLeaves a v.mounted) v) beside

  -- and then the one instead of it
  pub beside_then : says_exists r ≡ true → (command : VolumeCommand) → a.instead ≡ Some command → (w : VolumesView) → StaysBeside (StopLeaves command u.mounted) u w → StaysBeside (AttemptLeaves a v.mounted) v w
  beside_then exists command instead w later =
      beside_next 1 (AttemptLeaves a v.mounted) (StopLeaves command u.mounted) v u w did.seen
      (λ told x left. left_then a v.mounted r u.mounted did exists command instead told x left)
      (beside_on 0 (AttemptLeaves a v.mounted) v u beside_first) later
