-- How long the texts of entries are, so that the front of a line tells whether the line is one.
use Rattle.std.proofs.Common.{◌≡◌, ◌↔◌, ◌≤◌, ◌<◌, ◌+◌, ◌∙◌, ◌++◌, ◌∷◌, [], ℕ, List, Option, Some, None, codes, length, take, refl, sym, ap, arith, length-append}
use Rattle.std.proofs.lemmas.List.{take_all, length-take}
use Rattle.std.proofs.lemmas.Fmt.{length-decimal-le}
use Rattle.std.specs.Fmt.{decimal}
use Rattle.il_frames.specs.declared.entry.Entry.{Entry}
use Rattle.il_frames.specs.declared.entry.Outcome.{Outcome}
use Rattle.il_frames.specs.declared.entry.Outcome.TheVariants as outcome
use Rattle.il_frames.specs.declared.frame.Frame.{Frame}
use Rattle.il_frames.specs.declared.message.Message.{Message}
use Rattle.il_frames.specs.declared.message.Message.TheVariants as msg
use Rattle.il_frames.specs.Messages.{message_of}
use Rattle.il_frames.specs.Texts.{name_of, number_of, number_text, text_of}
use Rattle.il_frames.specs.Entries.{IsEntry, IsOutcome, entry_text, outcome_text}
use Rattle.il_check.specs.Verdicts.{is_entry_line}

-- a name has three letters
name_three : (m : Message) → length (name_of m) ≡ 3
name_three (msg.Dab n) = refl
name_three (msg.Dsr n) = refl
name_three (msg.End n) = refl
name_three (msg.Esr n) = refl
name_three (msg.Idy n) = refl
name_three (msg.Isr n) = refl
name_three (msg.Lad n) = refl
name_three (msg.Tad n) = refl
name_three (msg.Sad n) = refl
name_three (msg.Ppe n) = refl
name_three (msg.Ddl n) = refl
name_three (msg.Ddt n) = refl
name_three (msg.OtherCmd n) = refl
name_three (msg.Aad n) = refl
name_three (msg.OtherRdy n) = refl
name_three msg.Nul = refl
name_three msg.Gtl = refl
name_three msg.Sdc = refl
name_three msg.Ppd = refl
name_three msg.Get = refl
name_three msg.Eln = refl
name_three msg.Nop = refl
name_three msg.Llo = refl
name_three msg.Dcl = refl
name_three msg.Ppu = refl
name_three msg.Ear = refl
name_three msg.Unl = refl
name_three msg.Unt = refl
name_three msg.Ifc = refl
name_three msg.Ren = refl
name_three msg.Nre = refl
name_three msg.Aau = refl
name_three msg.Lpd = refl
name_three msg.Rfc = refl
name_three msg.Eto = refl
name_three msg.Ete = refl
name_three msg.Nrd = refl
name_three msg.Sda = refl
name_three msg.Sst = refl
name_three msg.Sdi = refl
name_three msg.Sai = refl
name_three msg.Tct = refl
name_three msg.Iaa = refl

short_number : (o : Option ℕ) → length (number_text o) ≤ 3
short_number None = omega arith
short_number (Some n) = omega arith

short_frame : (f : Frame) → length (text_of f) ≤ 6
short_frame f =
    let m = message_of f in
    omega (arith, length-append (name_of m) (number_text (number_of m)), name_three m, short_number (number_of m))

short_party : (n : ℕ) → n < 256 → length (decimal n) ≤ 3
short_party n small = length-decimal-le 3 n (omega arith) (omega (arith, small)) (omega (arith, small))

short_outcome : (o : Outcome) → IsOutcome o → length (outcome_text o) ≤ 9
short_outcome (outcome.Back f) is = omega (arith, length-append (codes " = ") (text_of f), short_frame f)
short_outcome (outcome.Taken party) is = omega (arith, length-append (codes " > ") (decimal party), short_party party is)
short_outcome (outcome.Lost party) is = omega (arith, length-append (codes " ! ") (decimal party), short_party party is)

five : (a b c d e : List ℕ) → length (a ++ b ++ c ++ d ++ e) ≡ length a + length b + length c + length d + length e
five a b c d e = length-append (a ++ b ++ c ++ d) e ∙ ap (λ (n : ℕ). n + length e) (length-append (a ++ b ++ c) d
    ∙ ap (λ (n : ℕ). n + length d) (length-append (a ++ b) c ∙ ap (λ (n : ℕ). n + length c) (length-append a b)))

pub short_entry : (e : Entry) → IsEntry e → length (entry_text e) ≤ 40
short_entry e is =
    let source = short_party e.source is.0 in
    let frame = short_frame e.frame in
    let end = short_outcome e.outcome is.2 in
    few (length (decimal e.source)) (length (text_of e.frame)) (length (outcome_text e.outcome)) (length (entry_text e)) source frame end
    (five (codes "~ ") (decimal e.source) (codes " ") (text_of e.frame) (outcome_text e.outcome))
  where
    few : (a b c n : ℕ) → a ≤ 3 → b ≤ 6 → c ≤ 9 → n ≡ 2 + a + 1 + b + c → n ≤ 40
    few a b c n ha hb hc h = omega (arith, ha, hb, hc, h)

-- a line is the text of an entry where its front is
pub same_text : (e : Entry) (line : List ℕ) → IsEntry e → (entry_text e ≡ take 41 line) ↔ (entry_text e ≡ line)
same_text e line is = (
  λ same. same ∙ take_all 41 line (few (ap (λ (l : List ℕ). length l) same)),
  λ same. same ∙ sym (take_all 41 line (omega (arith, short_entry e is, ap (λ (l : List ℕ). length l) same))),
)
  where
    few : length (entry_text e) ≡ length (take 41 line) → length line ≤ 41
    few same = omega (arith, short_entry e is, same, length-take 41 line)

pub front_marks : (line : List ℕ) → is_entry_line (take 41 line) ≡ is_entry_line line
front_marks [] = refl
front_marks (x ∷ line) = refl
