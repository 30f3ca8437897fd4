use Rattle.std.proofs.Common.{◌≡◌, inl, inr, List, [], ◌∷◌, None, true, map, refl, sym, ap, ap₂, ◌∙◌}
use Rattle.std.specs.String.{string_bytes}
use Rattle.clap.specs.Words.{Row, app_of, is_simple, is_simple_and_free, fault_of, matches_of, IsAmong, Kinds, kind_of}
use Rattle.clap.specs.declared.error.kind.ErrorKind.{ErrorKind}
use Rattle.clap.proofs.OnLiterals.{clap_on_literals}
use Rattle.il_words.specs.Simple.{il_app, unless_fault}
use Rattle.il_words.proofs.command.parse.Goals as goal

simple : is_simple il_app ≡ true
unfolding il_app clap_on_literals
simple = refl

free : is_simple_and_free il_app ≡ true
unfolding il_app clap_on_literals
free = refl

-- where a kind of fault is among the kinds, nothing is found
faulty : (kind : ErrorKind) (kinds : Kinds) (rows : List Row) → IsAmong kind kinds → unless_fault kinds rows ≡ None
faulty kind [] rows h = absurd h
faulty kind (first ∷ kinds) rows h = refl

pub returns-in-Ok-try_get_matches_from-clause-read : goal.returns-in-Ok-try_get_matches_from-clause-read
returns-in-Ok-try_get_matches_from-clause-read c =
    let app : app_of c.in-Ok.command ≡ il_app = c.in-Ok.ensures in
    let words = map string_bytes c.args.words.now in
    let e = c.in-Ok-try_get_matches_from.ensures in
    let none = ap (λ a. fault_of a words) (sym app) ∙ e.kinds (ap is_simple_and_free app ∙ free) in
    let rows = (e.matches (ap is_simple app ∙ simple)).0 ∙ ap (λ a. matches_of a words) app in
    ap₂ unless_fault none (sym rows)

pub returns-in-Err-clause-refused : goal.returns-in-Err-clause-refused
returns-in-Err-clause-refused c r =
    let app : app_of c.in-Ok.command ≡ il_app = c.in-Ok.ensures in
    let words = map string_bytes c.args.words.now in
    let f = c.in-Err.ensures.kinds (ap is_simple_and_free app ∙ free) in
    elim f [
      | inl memory ↦ let o = c.told_as.ensures.memory (c.kind.ensures ∙ memory) in cc
      | inr h ↦ ap (λ a. unless_fault (fault_of a words) (matches_of il_app words)) (sym app) ∙ faulty (kind_of c.in-Err.error) (fault_of (app_of c.in-Ok.command) words) (matches_of il_app words) h
    ]
