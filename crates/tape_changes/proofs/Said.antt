-- The messages of the steps, one after the other.
use Rattle.std.proofs.Common.{◌≡◌, ◌≤◌, ◌<◌, ◌++◌, ◌+◌, ◌∙◌, ℕ, zero, suc, List, [], ◌∷◌, Option, Some, None, refl, sym, ap, subst, append_assoc, append-nil, arith, length, take, Bor}
use Rattle.std.specs.Prelude.{Result, IfSome, MatchOption, get_or, slice_get}
use Rattle.std.specs.Option.{option_copied}
use Rattle.std.proofs.lemmas.Option.{slice_get-get_or, slice_get_past}
use Rattle.std.specs.Io.KnownBytes.{Appends}
use Rattle.std.specs.Result.{IsErr}
use Rattle.il_ports.specs.Writing.{WritesAll, WritesFront}
use Rattle.il_ports.proofs.Writing.{appends-trans}
use Rattle.tape_volumes.proofs.Fronts.{front_first, front_next, front_of}
use Rattle.il_script.specs.declared.reply.Reply.{Reply}
use Rattle.tape_changes.specs.declared.changing.Step.{Step}
use Rattle.tape_changes.specs.ChangeMessages.{step_message, step_messages}

at_suc : (image : List ℕ) (steps : List Step) (replies : List Reply) (i : ℕ) (d : Step) → i < length steps
    → step_messages image (take (suc i) steps) replies ≡ step_messages image (take i steps) replies ++ step_message image (get_or steps i d) (slice_get replies i)
at_suc image [] replies i d lt = absurd (omega (arith, lt))
at_suc image (step ∷ steps) [] zero d lt = append-nil (step_message image step None)
at_suc image (step ∷ steps) (r ∷ replies) zero d lt = append-nil (step_message image step (Some r))
at_suc image (step ∷ steps) [] (suc i) d lt =
    ap (λ (l : List ℕ). step_message image step None ++ l) (at_suc image steps [] i d (omega (arith, lt)))
    ∙ sym (append_assoc (step_message image step None) (step_messages image (take i steps) []) _)
at_suc image (step ∷ steps) (r ∷ replies) (suc i) d lt =
    ap (λ (l : List ℕ). step_message image step (Some r) ++ l) (at_suc image steps replies i d (omega (arith, lt)))
    ∙ sym (append_assoc (step_message image step (Some r)) (step_messages image (take i steps) replies) _)

-- one message more
pub messages_next : (image : List ℕ) (steps : List Step) (replies : List Reply) (i : ℕ) (d : Step) → i < length steps
    → step_messages image (take (i + 1) steps) replies ≡ step_messages image (take i steps) replies ++ step_message image (get_or steps i d) (slice_get replies i)
messages_next image steps replies i d lt = let on : i + 1 ≡ suc i = omega arith in ap (λ n. step_messages image (take n steps) replies) on ∙ at_suc image steps replies i d lt

-- the reply at that place, if there is one
pub reply_at : (replies : List Reply) (i : ℕ) (at : Option (Bor Reply)) (found : Bor Reply → Type 0) → IfSome at (λ (b : Bor Reply). b.now ≡ get_or replies i b.now)
    → MatchOption at (length replies ≤ i) (λ (b : Bor Reply). (i < length replies) × found b) → option_copied at ≡ slice_get replies i
reply_at replies i None found value is = sym (slice_get_past replies i is)
reply_at replies i (Some b) found value is = ap Some value ∙ sym (slice_get-get_or replies i b.now is.0)

pub told_next : (image : List ℕ) (steps : List Step) (replies : List Reply) (i : ℕ) (step : Step) (reply : Option Reply) (a b c : Option (List ℕ)) → i < length steps → step ≡ get_or steps i step
    → reply ≡ slice_get replies i → Appends a b (step_messages image (take i steps) replies) → Appends b c (step_message image step reply) → Appends a c (step_messages image (take (i + 1) steps) replies)
told_next image steps replies i step reply a b c lt here is first last =
    subst (λ (text : List ℕ). Appends a c text)
    ((λ j. step_messages image (take i steps) replies ++ step_message image (here j) (is j)) ∙ sym (messages_next image steps replies i step lt))
    (appends-trans a b c _ _ first last)

-- a text before others
behind : (first whole a b rest : List ℕ) → whole ≡ (a ++ b) ++ rest → first ++ whole ≡ ((first ++ a) ++ b) ++ rest
behind first whole a b rest is =
    ap (λ (l : List ℕ). first ++ l) is ∙ sym (append_assoc first (a ++ b) rest)
    ∙ ap (λ (l : List ℕ). l ++ rest) (sym (append_assoc first a b))

-- the messages up to one place, that of this place, and the rest
messages_at : (image : List ℕ) (steps : List Step) (replies : List Reply) (i : ℕ) (d : Step) → i < length steps
    → (rest : List ℕ) × (step_messages image steps replies ≡ (step_messages image (take i steps) replies ++ step_message image (get_or steps i d) (slice_get replies i)) ++ rest)
messages_at image [] replies i d lt = absurd (omega (arith, lt))
messages_at image (step ∷ steps) [] zero d lt = (step_messages image steps [], refl)
messages_at image (step ∷ steps) (r ∷ replies) zero d lt = (step_messages image steps replies, refl)
messages_at image (step ∷ steps) [] (suc i) d lt =
    let more = messages_at image steps [] i d (omega (arith, lt)) in
    (more.0, behind (step_message image step None) (step_messages image steps []) (step_messages image (take i steps) []) (step_message image (get_or steps i d) (slice_get [] i)) more.0 more.1)
messages_at image (step ∷ steps) (r ∷ replies) (suc i) d lt =
    let more = messages_at image steps replies i d (omega (arith, lt)) in
    (more.0, behind (step_message image step (Some r)) (step_messages image steps replies) (step_messages image (take i steps) replies) (step_message image (get_or steps i d) (slice_get replies i)) more.0 more.1)

-- a write failed at the message of this place
pub told_front : {E : Type 0} (image : List ℕ) (steps : List Step) (replies : List Reply) (i : ℕ) (step : Step) (reply : Option Reply) (a b c : Option (List ℕ)) (r : Result (Unit {0}) E) → IsErr r → i < length steps
    → step ≡ get_or steps i step → reply ≡ slice_get replies i → Appends a b (step_messages image (take i steps) replies) → WritesFront b c (step_message image step reply)
    → WritesAll a c (step_messages image steps replies) r
told_front image steps replies i step reply a b c r fails lt same is first second =
    let at = messages_at image steps replies i step lt in
    let here = step_message image (get_or steps i step) (slice_get replies i) in
    let front : WritesFront b c here = subst (λ (text : List ℕ). WritesFront b c text) (λ j. step_message image (same j) (is j)) second in
    front_of a c (step_messages image steps replies) r fails
    (subst (λ (text : List ℕ). WritesFront a c text) (sym at.1)
    (front_first a c (step_messages image (take i steps) replies ++ here) at.0 (front_next a b c (step_messages image (take i steps) replies) here first front)))
