use Rattle.std.proofs.Common.{◌≡◌, inl, inr, [], ◌∷◌, None, Option, true, map, refl, sym, ap, ap₂, ◌∙◌}
use Rattle.std.specs.String.{string_bytes}
use Rattle.clap.specs.Words.{app_of, is_simple, is_simple_and_free, fault_of, matches_of, subcommand_of, IsAmong, Kinds, kind_of}
use Rattle.clap.specs.declared.error.kind.ErrorKind.{ErrorKind}
use Rattle.clap.proofs.OnLiterals.{clap_on_literals}
use Rattle.tape_words.specs.Simple.{tape_app}
use Rattle.tape_words.specs.Asked.{Wanted, IfRefused, job_in, unless_faulty}
use Rattle.tape_words.specs.declared.command.NotRead.{NotRead}
use Rattle.tape_words.specs.declared.command.NotRead.TheVariants as not_read
use Rattle.tape_words.proofs.command.parse.Goals as goal

simple : is_simple tape_app ≡ true
unfolding tape_app clap_on_literals
simple = refl

free : is_simple_and_free tape_app ≡ true
unfolding tape_app clap_on_literals
free = refl

-- if a kind of fault is among the kinds, nothing is asked
faulty : (kind : ErrorKind) (kinds : Kinds) (asked : Option Wanted) → IsAmong kind kinds → unless_faulty kinds asked ≡ None
faulty kind [] asked h = absurd h
faulty kind (first ∷ kinds) asked h = refl

-- a fact holds of a refusal too
of_refusal : (P : Type 0) (fault : NotRead) → P → IfRefused P fault
of_refusal P (not_read.Refused text) p = p
of_refusal P not_read.OutOfMemory p = tt

pub returns-in-Ok-try_get_matches_from-clause-read : goal.returns-in-Ok-try_get_matches_from-clause-read
returns-in-Ok-try_get_matches_from-clause-read c =
    let app : app_of c.in-Ok.command ≡ tape_app = c.in-Ok.ensures in
    let words = map string_bytes c.args.words.now in
    let e = c.in-Ok-try_get_matches_from.ensures in
    let none = ap (λ a. fault_of a words) (sym app) ∙ e.kinds (ap is_simple_and_free app ∙ free) in
    let found = e.matches (ap is_simple app ∙ simple) in
    let rows = found.0 ∙ ap (λ a. matches_of a words) app in
    let sub = found.1 ∙ ap (λ a. subcommand_of a words) app in
    ap₂ unless_faulty none (ap₂ job_in (sym rows) (sym sub))

pub returns-in-Err-clause-refused : goal.returns-in-Err-clause-refused
returns-in-Err-clause-refused c =
    let app : app_of c.in-Ok.command ≡ tape_app = c.in-Ok.ensures in
    let words = map string_bytes c.args.words.now in
    let asked = job_in (matches_of tape_app words) (subcommand_of tape_app words) in
    let f = c.in-Err.ensures.kinds (ap is_simple_and_free app ∙ free) in
    elim f [
      | inl memory ↦ let told = c.not_read.ensures.memory (c.kind.ensures ∙ memory) in rw told tt
      | inr h ↦ of_refusal _ c.not_read.result (ap (λ a. unless_faulty (fault_of a words) asked) (sym app) ∙ faulty (kind_of c.in-Err.error) (fault_of (app_of c.in-Ok.command) words) asked h)
    ]
