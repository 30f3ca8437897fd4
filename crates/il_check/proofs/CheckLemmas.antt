-- How the parts of a check make the whole.
use Rattle.std.proofs.Common.{◌≡◌, ◌≢◌, ◌⊎◌, ◌∙◌, ◌<◌, inl, inr, ℕ, true, [], List, Option, Some, None, refl, subst, sym, length}
use Rattle.std.specs.Prelude.{Result, Err, is_some, unwrap_or}
use Rattle.lif_model.specs.Tape.{Tape, IsTape}
use Rattle.il_ports.specs.Media.{MediumView, IsMedium}
use Rattle.il_script.specs.LineCut.{lines_of}
use Rattle.il_check.specs.declared.ending.Ending.{Ending}
use Rattle.il_check.specs.declared.ending.Ending.TheVariants as ending
use Rattle.il_check.specs.declared.verdict.TraceFault.{TraceFault}
use Rattle.il_check.specs.declared.verdict.TraceFault.TheVariants as fault
use Rattle.il_check.specs.declared.reading.Cut.{Cut}
use Rattle.il_check.specs.declared.reading.Cut.TheVariants as cut
use Rattle.il_check.specs.declared.reading.TheConstants.{LONGEST_TRACE}
use Rattle.il_check.specs.declared.tracing.Tracing.{Tracing}
use Rattle.il_check.specs.Reading.{ReadsTrace}
use Rattle.il_check.specs.Endings.{Says}
use Rattle.il_check.specs.Orders.{CheckOrder}
use Rattle.il_check.specs.Tapes.{IsTakenFrom, TapeCause}
use Rattle.il_check.specs.Telling.{label_on, verdict_text}
use Rattle.il_check.specs.Verdicts.{IsVerdict}
use Rattle.il_check.specs.Whole.{InsertFailedBy, CheckFailedBy, AreTold, IsAs, IsIn, IsOneOut, IsOut, CheckedBy, ReadsFor, StaysSo, TellsAs, TellsOf, PutsAs}

pub telling : (k d n m : ℕ) (old new : Tape) (P : Type 0) (left now written written_now : Option (List ℕ)) (end : Ending) (said : Option (ℕ × TraceFault)) (before after : Option (List ℕ))
    → before ≡ label_on old → after ≡ label_on new → Says end said → ReadsFor n m left now
    → (P → (trace : List ℕ) → left ≡ Some trace → IsVerdict k d old new (lines_of trace) said)
    → PutsAs end (verdict_text said before after) written written_now → TellsAs k d n m old new P left now written written_now end
telling k d n m old new P left now written written_now end said before after first second says reads right writes = by end says (subst (λ (l : Option (List ℕ)). PutsAs end (verdict_text said (label_on old) l) written written_now) second
    (subst (λ (l : Option (List ℕ)). PutsAs end (verdict_text said l after) written written_now) first writes))
  where
    by : (end : Ending) → Says end said → PutsAs end (verdict_text said (label_on old) (label_on new)) written written_now → TellsAs k d n m old new P left now written written_now end
    by ending.Together says writes = record { said = said; says = says; reads = reads; right = right; writes = writes }
    by ending.Differ says writes = record { said = said; says = says; reads = reads; right = right; writes = writes }
    by ending.SinkFailed says writes = record { said = said; says = says; reads = reads; right = right; writes = writes }
    by ending.BadWords says writes = absurd says
    by ending.NoImage says writes = absurd says
    by ending.ImageTooLarge says writes = absurd says
    by ending.SourceFailed says writes = absurd says
    by ending.OutOfMemory says writes = absurd says
    by ending.TraceTooLong says writes = absurd says
    by ending.InsertFailed says writes = absurd says
    by ending.ReadFailed says writes = absurd says

-- ---- the tapes in the drives

same_tape : (a b : Tape) → Some a ≡ Some b → a ≡ b
same_tape a b e = cc

-- a tape for what is told
told_tape : (o : Option Tape) → IsAs o (unwrap_or o [])
told_tape None = λ t e. cc
told_tape (Some x) = λ t e. same_tape x t e

told_size : (o : Option Tape) (n : ℕ) → ((t : Tape) → o ≡ Some t → IsTape n t) → is_some o ≡ true → length (unwrap_or o []) ≡ n
told_size None n shape some = cc
told_size (Some x) n shape some = (shape x refl).records

told_now : (o : Option Tape) → is_some o ≡ true → (t : Tape) × (o ≡ Some t)
told_now None some = cc
told_now (Some x) some = (x, refl)

-- nothing was said, for want of memory or after a fault of a medium
pub untold : (k d n m a b : ℕ) (first second : Option Tape) (left written : Option (List ℕ)) (end : Ending)
    → (let answer : Result Tape Ending = Err end in TapeCause a b answer) → (end ≡ ending.ReadFailed → n ≡ m) → TellsOf k d n m first second left left written written end
untold k d n m a b first second left written ending.OutOfMemory cause same =
    record { old = unwrap_or first []; new = unwrap_or second []; old_is = told_tape first; new_is = told_tape second; tells = (refl, refl) }
untold k d n m a b first second left written ending.ReadFailed cause same =
    record { old = unwrap_or first []; new = unwrap_or second []; old_is = told_tape first; new_is = told_tape second; tells = (same refl, refl, refl) }
untold k d n m a b first second left written ending.Together cause same = absurd cause
untold k d n m a b first second left written ending.Differ cause same = absurd cause
untold k d n m a b first second left written ending.BadWords cause same = absurd cause
untold k d n m a b first second left written ending.NoImage cause same = absurd cause
untold k d n m a b first second left written ending.ImageTooLarge cause same = absurd cause
untold k d n m a b first second left written ending.SourceFailed cause same = absurd cause
untold k d n m a b first second left written ending.SinkFailed cause same = absurd cause
untold k d n m a b first second left written ending.TraceTooLong cause same = absurd cause
untold k d n m a b first second left written ending.InsertFailed cause same = absurd cause

-- the tapes differ in size
pub sizes_told : (k d : ℕ) (v w : MediumView) (left written written_now : Option (List ℕ)) (end : Ending) → IsMedium v → IsMedium w → v.record_count ≢ w.record_count
    → (let said : Option (ℕ × TraceFault) = Some (0, fault.SizeDiffers) in Says end said × PutsAs end (verdict_text said None None) written written_now)
    → TellsOf k d v.record_count w.record_count v.tape w.tape left left written written_now end
sizes_told k d v w left written written_now end first second differ told = record {
  old = unwrap_or v.tape [];
  new = unwrap_or w.tape [];
  old_is = told_tape v.tape;
  new_is = told_tape w.tape;
  tells = telling k d v.record_count w.record_count (unwrap_or v.tape []) (unwrap_or w.tape []) (AreTold v.tape w.tape) left left written written_now end (Some (0, fault.SizeDiffers))
      (label_on (unwrap_or v.tape [])) (label_on (unwrap_or w.tape [])) refl refl told.0 (record { whole = λ same. absurd (differ same); unread = λ other. refl })
      (λ both trace is. (refl, λ same. differ (sym (told_size v.tape v.record_count first.is_tape both.first) ∙ same ∙ told_size w.tape w.record_count second.is_tape both.second))) told.1;
}

-- by what is known of the tapes
retell : (k d n m n' m' : ℕ) (old new : Tape) (P Q : Type 0) (left now written written_now : Option (List ℕ)) (end : Ending) → n ≡ n' → m ≡ m' → (Q → P)
    → TellsAs k d n m old new P left now written written_now end → TellsAs k d n' m' old new Q left now written written_now end
retell k d n m n' m' old new P Q left now written written_now end first second so = by end
  where
    reads : ReadsFor n m left now → ReadsFor n' m' left now
    reads r = subst (λ (x : ℕ). ReadsFor x m' left now) first (subst (λ (x : ℕ). ReadsFor n x left now) second r)

    by : (end : Ending) → TellsAs k d n m old new P left now written written_now end → TellsAs k d n' m' old new Q left now written written_now end
    by ending.Together t = record { said = t.said; says = t.says; reads = reads t.reads; right = λ q. t.right (so q); writes = t.writes }
    by ending.Differ t = record { said = t.said; says = t.says; reads = reads t.reads; right = λ q. t.right (so q); writes = t.writes }
    by ending.SinkFailed t = record { said = t.said; says = t.says; reads = reads t.reads; right = λ q. t.right (so q); writes = t.writes }
    by ending.BadWords t = absurd t.says
    by ending.NoImage t = absurd t.says
    by ending.ImageTooLarge t = absurd t.says
    by ending.InsertFailed t = absurd t.says
    by ending.SourceFailed t = (sym first ∙ t.0 ∙ second, t.1)
    by ending.OutOfMemory t = t
    by ending.TraceTooLong t = (sym first ∙ t.0 ∙ second, t.1, t.2)
    by ending.ReadFailed t = (sym first ∙ t.0 ∙ second, t.1, t.2)

-- the tapes were read, and checked with the trace
pub tapes_told : (k d : ℕ) (v v' w w' : MediumView) (old new : Tape) (left now written written_now : Option (List ℕ)) (end : Ending) → IsMedium w
    → IsTakenFrom v old → IsTakenFrom w new → StaysSo v v' → StaysSo w w' → v.record_count ≡ w.record_count
    → TellsAs k d (length old) (length new) old new (IsTape (length old) new) left now written written_now end
    → TellsOf k d v'.record_count w'.record_count v'.tape w'.tape left now written written_now end
tapes_told k d v v' w w' old new left now written written_now end medium first second stays stays' same tells = record {
  old = old;
  new = new;
  old_is = λ t is. first.told t (sym stays.tape ∙ is);
  new_is = λ t is. second.told t (sym stays'.tape ∙ is);
  tells = retell k d (length old) (length new) v'.record_count w'.record_count old new (IsTape (length old) new) (AreTold v'.tape w'.tape) left now written written_now end
      (first.size ∙ sym stays.size) (second.size ∙ sym stays'.size) shape tells;
}
  where
    shape : AreTold v'.tape w'.tape → IsTape (length old) new
    shape both =
        let told = told_now w'.tape both.second in
        let is : w.tape ≡ Some told.0 = sym stays'.tape ∙ told.1 in
        subst (λ (n : ℕ). IsTape n new) (sym (first.size ∙ same)) (subst (λ (t : Tape). IsTape w.record_count t) (sym (second.told told.0 is)) (medium.is_tape told.0 is))

-- ---- the whole

-- an image that is in stays in
in_stays : (name : List ℕ) (v w x : MediumView) → IsIn name v w → StaysSo w x → IsIn name v x
in_stays name v w x is stays = record {
  image = rw (stays.shelf, stays.inside, stays.tape, stays.size) is.image;
  since = λ m c left. later m c (is.since m c (stays.since m c left));
}
  where
    later : (m : ℕ) (c : Tape) → v.left_since m c ⊎ (w.tape ≡ Some c) → v.left_since m c ⊎ (x.tape ≡ Some c)
    later m c (inl left) = inl left
    later m c (inr now) = inr (stays.tape ∙ now)

pub leaves_told : (order : CheckOrder) (v v' v'' w w' w'' : MediumView) (left now written written_now : Option (List ℕ)) (end : Ending)
    → IsIn order.before v v' → IsIn order.after w w' → StaysSo v' v'' → StaysSo w' w''
    → TellsOf order.devices order.drive v''.record_count w''.record_count v''.tape w''.tape left now written written_now end
    → CheckedBy end (Some order) v v'' w w'' left now written written_now
leaves_told order v v' v'' w w' w'' left now written written_now end first second stays stays' = by end
  where
    a : IsIn order.before v v''
    a = in_stays order.before v v' v'' first stays

    b : IsIn order.after w w''
    b = in_stays order.after w w' w'' second stays'

    by : (end : Ending) → TellsOf order.devices order.drive v''.record_count w''.record_count v''.tape w''.tape left now written written_now end
        → CheckedBy end (Some order) v v'' w w'' left now written written_now
    by ending.Together t = (a, b, t)
    by ending.Differ t = (a, b, t)
    by ending.SinkFailed t = (a, b, t)
    by ending.SourceFailed t = (a, b, t)
    by ending.OutOfMemory t = (a, b, t)
    by ending.TraceTooLong t = (a, b, t)
    by ending.ReadFailed t = (a, b, t)
    by ending.BadWords t = absurd t.tells.says
    by ending.NoImage t = absurd t.tells.says
    by ending.ImageTooLarge t = absurd t.tells.says
    by ending.InsertFailed t = absurd t.tells.says

none_out : (order : CheckOrder) (v v' w w' : MediumView) (end : Ending) → (IsOut order.before v v' end → ⊥) → (IsOut order.after w w' end → ⊥)
    → IsOneOut order.before order.after v v' w w' end → ⊥
none_out order v v' w w' end first second (inl out) = first out.0
none_out order v v' w w' end first second (inr out) = second out.1

pub leaves_out : (order : CheckOrder) (v v' w w' : MediumView) (left written : Option (List ℕ)) (end : Ending)
    → IsOneOut order.before order.after v v' w w' end → CheckedBy end (Some order) v v' w w' left left written written
leaves_out order v v' w w' left written ending.NoImage out = (out, refl, refl)
leaves_out order v v' w w' left written ending.ImageTooLarge out = (out, refl, refl)
leaves_out order v v' w w' left written ending.InsertFailed out = (out, refl, refl)
leaves_out order v v' w w' left written ending.Together out = absurd (none_out order v v' w w' ending.Together (λ h. h) (λ h. h) out)
leaves_out order v v' w w' left written ending.Differ out = absurd (none_out order v v' w w' ending.Differ (λ h. h) (λ h. h) out)
leaves_out order v v' w w' left written ending.SinkFailed out = absurd (none_out order v v' w w' ending.SinkFailed (λ h. h) (λ h. h) out)
leaves_out order v v' w w' left written ending.SourceFailed out = absurd (none_out order v v' w w' ending.SourceFailed (λ h. h) (λ h. h) out)
leaves_out order v v' w w' left written ending.OutOfMemory out = absurd (none_out order v v' w w' ending.OutOfMemory (λ h. h) (λ h. h) out)
leaves_out order v v' w w' left written ending.TraceTooLong out = absurd (none_out order v v' w w' ending.TraceTooLong (λ h. h) (λ h. h) out)
leaves_out order v v' w w' left written ending.ReadFailed out = absurd (none_out order v v' w w' ending.ReadFailed (λ h. h) (λ h. h) out)
leaves_out order v v' w w' left written ending.BadWords out = absurd (none_out order v v' w w' ending.BadWords (λ h. h) (λ h. h) out)

-- an image did not go into its drive by this ending
pub fails_out : (order : CheckOrder) (first second : List ℕ → Type 0) (end : Ending) → InsertFailedBy {T = Unit {0}} (Err end) (first order.before ⊎ second order.after) → CheckFailedBy end (Some order) first second
fails_out order first second ending.InsertFailed failed = failed
fails_out order first second ending.Together failed = tt
fails_out order first second ending.Differ failed = tt
fails_out order first second ending.SinkFailed failed = tt
fails_out order first second ending.SourceFailed failed = tt
fails_out order first second ending.OutOfMemory failed = tt
fails_out order first second ending.TraceTooLong failed = tt
fails_out order first second ending.ReadFailed failed = tt
fails_out order first second ending.BadWords failed = tt
fails_out order first second ending.NoImage failed = tt
fails_out order first second ending.ImageTooLarge failed = tt

-- an ending that compares the tapes is no failed insert
pub fails_not : (k d n m : ℕ) (before after : Option Tape) (left now written written_now : Option (List ℕ)) (end : Ending) (order : Option CheckOrder) (first second : List ℕ → Type 0)
    → TellsOf k d n m before after left now written written_now end → CheckFailedBy end order first second
fails_not k d n m before after left now written written_now ending.InsertFailed order first second t = absurd t.tells.says
fails_not k d n m before after left now written written_now ending.Together order first second t = tt
fails_not k d n m before after left now written written_now ending.Differ order first second t = tt
fails_not k d n m before after left now written written_now ending.SinkFailed order first second t = tt
fails_not k d n m before after left now written written_now ending.SourceFailed order first second t = tt
fails_not k d n m before after left now written written_now ending.OutOfMemory order first second t = tt
fails_not k d n m before after left now written written_now ending.TraceTooLong order first second t = tt
fails_not k d n m before after left now written written_now ending.ReadFailed order first second t = tt
fails_not k d n m before after left now written written_now ending.BadWords order first second t = tt
fails_not k d n m before after left now written written_now ending.NoImage order first second t = tt
fails_not k d n m before after left now written written_now ending.ImageTooLarge order first second t = tt

-- ---- the trace

pub too_long : (k d : ℕ) (old : Tape) (left now : Option (List ℕ)) (t : Tracing) (f : Cut) → f ≡ cut.TooLong
    → (let answer : Result (Unit {0}) Cut = Err f in ReadsTrace k d old left now t answer) → (trace : List ℕ) → left ≡ Some trace → LONGEST_TRACE < length trace
too_long k d old left now t cut.TooLong is reads = reads
too_long k d old left now t cut.Failed is reads = cc
