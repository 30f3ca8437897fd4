-- What a job does that makes changes of one image, one after the other.
use Rattle.std.specs.Prelude.{◌≡◌, ◌≤◌, ℕ, Bool, true, false, List, [], ◌∷◌, ◌⊎◌, All, length, map, take, fold, Option, Some, None, option_map, IfSome, if◌then◌else◌}
use Rattle.std.specs.List.{list_all}
use Rattle.std.specs.Io.KnownBytes.{Appends}
use Rattle.lif_model.specs.Apply.{VolumeCommand, apply}
use Rattle.lif_model.specs.Causes.{Rose}
use Rattle.lif_model.specs.Packing.{finished_volume_of}
use Rattle.lif_model.specs.Tape.{Tape}
use Rattle.lif_model.specs.Volume.{Volume}
use Rattle.lif_model.specs.declared.refusal.Refusal.{Refusal}
use Rattle.lif_model.specs.declared.refusal.Refusal.TheVariants.{Exists}
use Rattle.il_ports.specs.Writing.{WritesFront}
use Rattle.il_script.specs.declared.reply.Code.TheVariants as code
use Rattle.il_script.specs.declared.reply.Reply.{Reply}
use Rattle.il_script.specs.declared.reply.Reply.TheVariants as reply
use Rattle.tape_volumes.specs.Changes.{IsFormedChange, change_command}
use Rattle.tape_volumes.specs.Outputs.{WritesNothing}
use Rattle.tape_volumes.specs.Volumes.{CommandDid, Mounted, OwnsGate, volume_seen}
use Rattle.tape_volumes.specs.declared.change.Change.{Change}
use Rattle.tape_volumes.specs.declared.went.Went.{Went}
use Rattle.tape_volumes.specs.declared.went.Went.TheVariants as went
use Rattle.tape_changes.specs.declared.changing.Step.{Step}
use Rattle.tape_changes.specs.declared.changing.Next.{Next}
use Rattle.tape_changes.specs.declared.changing.Next.TheVariants as next

-- the change of a step was made
abbrev pub was_made : Reply → Bool
was_made reply.Ok = true
was_made r = false

-- What the job does after a step, by the reply to its change. If the change was made, the line of the step is written to
-- standard output; the job ends if that fails. It ends after a fault, and, if `early` is set, after a refusal.
abbrev pub NextBy : (ends_early : Bool) → Reply → (line : List ℕ) → Next → (before now : Option (List ℕ)) (faults faults_now : ℕ) → Type 0
NextBy early reply.Ok line next.GoesOn before now faults faults_now = Appends before now line × (faults_now ≡ faults)
NextBy early reply.Ok line next.LosesOutput before now faults faults_now = WritesFront before now line × Rose faults faults_now
NextBy early reply.Ok line next.Ends before now faults faults_now = ⊥
NextBy early (reply.No code) line n before now faults faults_now = (n ≡ (if early then next.Ends else next.GoesOn)) × WritesNothing before now faults faults_now
NextBy early r line n before now faults faults_now = (n ≡ next.Ends) × WritesNothing before now faults faults_now

-- standard output, if contracts can see it, and its count of faults
pub record Output : Type 0 where
  pub text : Option (List ℕ)
  pub faults : ℕ

abbrev pub output_of : Option (List ℕ) → ℕ → Output
output_of text faults = record { text = text; faults = faults }

-- ---- a step

-- a change was refused since there is a file of its name already
abbrev pub says_exists : Reply → Bool
says_exists (reply.No code.Exists) = true
says_exists r = false

-- what is asked for after this reply to the change of a step
abbrev pub asked_then : Reply → (instead : Option Change) → Option Change
asked_then r instead = if says_exists r then instead else None

-- This change was asked for, with this reply; or there is none, and the first reply is that of the step.
abbrev pub ThenDid : Option Change → (first r : Reply) → (s t : Mounted) → Type 0
ThenDid (Some change) first r s t = CommandDid (change_command change) r s t
ThenDid None first r s t = (r ≡ first) × (t ≡ s)

-- The change of a step was asked for, and then the one instead of it if there is a file of its name already. This was
-- the last reply.
pub record StepTried (step : Step) (r : Reply) (s t : Mounted) : Type 0 where
  pub first : Reply
  pub between : Mounted
  pub did : CommandDid (change_command step.change) first s between
  pub rest : ThenDid (asked_then first step.instead) first r between t

-- A step was taken, with this reply, and then this is next.
pub record StepTaken (early : Bool) (step : Step) (r : Reply) (n : Next) (s t : Mounted) (old now : Output) : Type 0 where
  pub tried : StepTried step r s t
  pub tells : NextBy early r step.line.now n old.text now.text old.faults now.faults

-- What follows a step: if the job goes on, the rest; otherwise nothing, and no step after it has a reply. `lost` says
-- whether standard output failed.
abbrev pub Follows : Next → (rest : Type 0) → List Reply → (lost : Bool) → (s t : Mounted) (old now : Output) → Type 0
Follows next.GoesOn rest replies lost s t old now = rest
Follows next.Ends rest replies lost s t old now = (replies ≡ []) × (lost ≡ false) × (t ≡ s) × (now ≡ old)
Follows next.LosesOutput rest replies lost s t old now = (replies ≡ []) × (lost ≡ true) × (t ≡ s) × (now ≡ old)

-- Steps were taken one after the other, with these replies. The last step with a reply is the first one after which the
-- job does not go on.
abbrev pub StepsTaken : (early : Bool) → List Step → List Reply → (lost : Bool) → (s t : Mounted) (old now : Output) → Type 0
StepsTaken early [] [] lost s t old now = (lost ≡ false) × (t ≡ s) × (now ≡ old)
StepsTaken early (step ∷ steps) (r ∷ replies) lost s t old now =
    (n : Next) × (between : Mounted) × (told : Output) × StepTaken early step r n s between old told
    × Follows n (StepsTaken early steps replies lost between t told now) replies lost between t told now
StepsTaken early steps replies lost s t old now = ⊥

-- how the job went: standard output failed; or all changes were made; or one was not
abbrev pub changes_went : (lost : Bool) → List Reply → Went
changes_went lost replies = if lost then went.Unwritten else (if list_all was_made replies then went.Done else went.NotAll)

-- ---- the volume after steps

-- A command of a step, and the one instead of it if there is a file of its name already.
pub record Attempt : Type 0 where
  pub command : VolumeCommand
  pub instead : Option VolumeCommand

abbrev pub attempt_of : Step → Attempt
attempt_of step = record { command = change_command step.change; instead = option_map change_command step.instead }

abbrev pub attempts_of : List Step → List Attempt
attempts_of steps = map attempt_of steps

-- the volume after a command and the one instead of it, by the refusal of the first: the other one is asked for only if
-- there is a file of its name already
abbrev pub with_instead : ℕ → (instead : Option VolumeCommand) → Option Refusal → Option Volume → Option Volume
with_instead n None refusal v = v
with_instead n (Some command) (Some Exists) v = (apply n command v).1
with_instead n (Some command) refusal v = v

-- the volume after an attempt, on a medium of n records: a command that is refused changes nothing
abbrev pub attempted : ℕ → Attempt → Option Volume → Option Volume
attempted n a v = with_instead n a.instead (apply n a.command v).0 (apply n a.command v).1

-- the volume after these attempts
abbrev pub after : ℕ → List Attempt → Option Volume → Option Volume
after n attempts v = fold (λ v a. attempted n a v) v attempts

-- A power stop within an attempt leaves the volume before it, or the one after it.
abbrev pub AttemptLeaves : Attempt → Mounted → Tape → Type 0
AttemptLeaves a s x = OwnsGate s.tape
    → (finished_volume_of x ≡ volume_seen s.tape) ⊎ (finished_volume_of x ≡ attempted s.records a (volume_seen s.tape))

-- A power stop within the job leaves the volume after a front of its attempts.
abbrev pub FrontIsLeft : List Attempt → Mounted → Tape → Type 0
FrontIsLeft attempts s x = OwnsGate s.tape
    → (k : ℕ) × (k ≤ length attempts) × (finished_volume_of x ≡ after s.records (take k attempts) (volume_seen s.tape))

-- ---- what is said of a step

-- what a step asks for; the subject of its message; and what is printed once it was done
pub record SaidStep : Type 0 where
  pub attempt : Attempt
  pub subject : List ℕ
  pub line : List ℕ

abbrev pub said : Step → SaidStep
said step = record { attempt = attempt_of step; subject = step.subject.now; line = step.line.now }

-- ---- the job

-- The changes were made or refused, with these replies, and the job went so.
pub record ChangesDid (early : Bool) (steps : List Step) (w : Went) (replies : List Reply) (s t : Mounted) (old now : Output) : Type 0 where
  pub lost : Bool
  pub taken : StepsTaken early steps replies lost s t old now
  pub went_so : w ≡ changes_went lost replies

-- the changes of a step can be asked for
pub record IsFormedStep (step : Step) : Type 0 where
  pub change : IsFormedChange step.change
  pub instead : IfSome step.instead IsFormedChange

abbrev pub AreFormed : List Step → Type 0
AreFormed steps = All IsFormedStep steps
