-- The message of a job was written.
use Rattle.std.proofs.Common.{◌≡◌, ◌∙◌, ◌++◌, inl, inr, ℕ, false, List, [], Option, sym, ap, subst, append_assoc, append-nil, codes}
use Rattle.std.specs.Prelude.{Result, Ok, Err}
use Rattle.il_ports.specs.Writing.{WritesAll}
use Rattle.lif_model.specs.Causes.{HasCause}
use Rattle.tape_volumes.specs.declared.went.Went.TheVariants as went
use Rattle.tape_volumes.specs.declared.ending.Ending.{Ending}
use Rattle.tape_volumes.specs.declared.ending.Ending.TheVariants as ending
use Rattle.tape_volumes.specs.Endings.{ending_message, file_message, is_done, of_image, told_line}
use Rattle.tape_volumes.specs.Messages.{WritesEnding, WritesMessage}

-- what was written, by the answer of the write
says : {E : Type 0} (text : List ℕ) (before now : Option (List ℕ)) (faults faults_now : ℕ) (r : Result (Unit {0}) E) → WritesAll before now text r → HasCause faults faults_now r
    → WritesMessage text before now faults faults_now
says text before now faults faults_now (Ok u) all cause = inl (all, cause)
says text before now faults faults_now (Err e) front cause = inr (front, cause)

not_done : (name : List ℕ) (e : Ending) (before now : Option (List ℕ)) (faults faults_now : ℕ) → is_done e ≡ false → WritesMessage (ending_message name e) before now faults faults_now
    → WritesEnding name e before now faults faults_now
not_done name (ending.Went went.Done) before now faults faults_now other message = cc
not_done name (ending.Went (went.Refused code)) before now faults faults_now other message = message
not_done name (ending.Went went.Fault) before now faults faults_now other message = message
not_done name (ending.Went went.Unwritten) before now faults faults_now other message = message
not_done name (ending.Went went.OutOfMemory) before now faults faults_now other message = message
not_done name (ending.Went went.NoSize) before now faults faults_now other message = message
not_done name (ending.Went went.NotAll) before now faults faults_now other message = message
not_done name (ending.Went went.FolderLost) before now faults faults_now other message = message
not_done name ending.NoImage before now faults faults_now other message = message
not_done name ending.ImageTooLarge before now faults faults_now other message = message
not_done name ending.NotOpened before now faults faults_now other message = message

-- ---- the parts of a message, one after the other

abbrev pub parts_of : List ℕ → List ℕ → List ℕ → List ℕ
parts_of subject cause advice = codes "tape: " ++ (subject ++ (codes ": " ++ (cause ++ (advice ++ (codes "\n" ++ [])))))

as_message : (a b c d e f : List ℕ) → a ++ (b ++ (c ++ (d ++ (e ++ (f ++ []))))) ≡ ((((a ++ b) ++ c) ++ d) ++ e) ++ f
as_message a b c d e f =
    ap (λ (l : List ℕ). a ++ (b ++ (c ++ (d ++ (e ++ l))))) (append-nil f)
    ∙ sym (append_assoc a b (c ++ (d ++ (e ++ f)))) ∙ sym (append_assoc (a ++ b) c (d ++ (e ++ f)))
    ∙ sym (append_assoc ((a ++ b) ++ c) d (e ++ f)) ∙ sym (append_assoc (((a ++ b) ++ c) ++ d) e f)

-- they are the message
pub told_parts : (subject cause advice said caused advised : List ℕ) → said ≡ subject → caused ≡ cause → advised ≡ advice → parts_of said caused advised ≡ told_line subject cause advice
told_parts subject cause advice said caused advised subjects causes advises =
    (λ i. parts_of (subjects i) (causes i) (advises i)) ∙ as_message (codes "tape: ") subject (codes ": ") cause advice (codes "\n")

-- those of a message that names a file too
abbrev pub file_parts_of : List ℕ → List ℕ → List ℕ → List ℕ → List ℕ
file_parts_of image file cause advice = codes "tape: " ++ (image ++ (codes ": " ++ (file ++ (codes ": " ++ (cause ++ (advice ++ (codes "\n" ++ [])))))))

pub told_file_parts : (image file cause advice held said caused advised : List ℕ) → held ≡ image → said ≡ file → caused ≡ cause → advised ≡ advice
    → file_parts_of held said caused advised ≡ told_line (of_image image file) cause advice
told_file_parts image file cause advice held said caused advised images files causes advises =
    let rest : List ℕ = codes ": " ++ (cause ++ (advice ++ (codes "\n" ++ []))) in
    (λ i. file_parts_of (images i) (files i) (causes i) (advises i))
    ∙ ap (λ (l : List ℕ). codes "tape: " ++ l) (sym (append_assoc image (codes ": ") (file ++ rest)) ∙ sym (append_assoc (image ++ codes ": ") file rest))
    ∙ as_message (codes "tape: ") (of_image image file) (codes ": ") cause advice (codes "\n")

-- ---- what was written

pub says_ending : {E : Type 0} (name : List ℕ) (e : Ending) (before now : Option (List ℕ)) (faults faults_now : ℕ) (r : Result (Unit {0}) E) (text : List ℕ)
    → text ≡ ending_message name e → WritesAll before now text r → HasCause faults faults_now r → is_done e ≡ false → WritesEnding name e before now faults faults_now
says_ending name e before now faults faults_now r text same appends cause other =
    not_done name e before now faults faults_now other (says (ending_message name e) before now faults faults_now r (subst (λ (text : List ℕ). WritesAll before now text r) same appends) cause)

pub says_of_file : {E : Type 0} (image file : List ℕ) (e : Ending) (before now : Option (List ℕ)) (faults faults_now : ℕ) (r : Result (Unit {0}) E) (text : List ℕ)
    → text ≡ file_message image file e → WritesAll before now text r → HasCause faults faults_now r → WritesMessage (file_message image file e) before now faults faults_now
says_of_file image file e before now faults faults_now r text same appends cause =
    says (file_message image file e) before now faults faults_now r (subst (λ (text : List ℕ). WritesAll before now text r) same appends) cause

-- a text that is the same
pub as_told : {E : Type 0} (before now : Option (List ℕ)) (r : Result (Unit {0}) E) (text told : List ℕ) → text ≡ told → WritesAll before now text r → WritesAll before now told r
as_told before now r text told same appends = subst (λ (text : List ℕ). WritesAll before now text r) same appends
