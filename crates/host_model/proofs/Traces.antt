-- Two logs with one trace are the same log.
use Rattle.std.proofs.Common.{◌≡◌, ◌∙◌, ◌<◌, ◌++◌, ◌==◌, ◌&&◌, ℕ, Bool, All, true, false, not, List, [], ◌∷◌, if◌then◌else◌, length, map, codes, refl, sym, ap, ap₂, arith, append_assoc}
use Rattle.std.proofs.lemmas.Bool.{and_parts}
use Rattle.std.proofs.lemmas.List.Elements.{All-head, All-tail}
use Rattle.std.specs.Prelude.{drop, get_or}
use Rattle.std.specs.Fmt.{decimal, digits}
use Rattle.std.specs.List.{list_all}
use Rattle.std.proofs.lemmas.List.Folds.{list_all-append}
use Rattle.il_frames.specs.declared.entry.Entry.{Entry}
use Rattle.il_frames.specs.declared.entry.Outcome.{Outcome}
use Rattle.il_frames.specs.declared.entry.Outcome.TheVariants as outcome
use Rattle.il_frames.specs.declared.frame.Frame.{Frame}
use Rattle.il_frames.specs.declared.frame.Class.{Class}
use Rattle.il_frames.specs.declared.frame.Class.TheVariants as class
use Rattle.il_frames.specs.Frames.{IsFrame, framed}
use Rattle.il_frames.specs.Texts.{text_of}
use Rattle.il_frames.specs.Entries.{IsEntry, IsOutcome, entry_text, outcome_text}
use Rattle.il_frames.proofs.EntryLemmas.{entry_text-parts, only_entry, tail_of}
use Rattle.il_frames.proofs.ReadBack.{all_below, all_below-at}
use Rattle.il_script.specs.LineCut.{LineCut, byte_before, cut_before, line_cut}
use Rattle.host_model.specs.Replies.{trace_text}

-- ---- bytes that hold no line feed

abbrev pub is_no_feed : ℕ → Bool
is_no_feed x = not (x == 10)

abbrev pub has_no_feed : List ℕ → Bool
has_no_feed bytes = list_all is_no_feed bytes

joined : (p q : List ℕ) → has_no_feed p ≡ true → has_no_feed q ≡ true → has_no_feed (p ++ q) ≡ true
joined p q hp hq = list_all-append is_no_feed p q ∙ ap₂ (λ a b. a && b) hp hq

all_numbers : all_below (λ n. has_no_feed (decimal n)) 256 ≡ true
unfolding all_below digits
all_numbers = refl

number_clean : (n : ℕ) → n < 256 → has_no_feed (decimal n) ≡ true
number_clean n h = all_below-at (λ k. has_no_feed (decimal k)) 256 n all_numbers h

all_frames : (c : Class) → all_below (λ n. has_no_feed (text_of (framed c n))) 256 ≡ true
unfolding all_below
all_frames class.Dab = refl
all_frames class.Dsr = refl
all_frames class.End = refl
all_frames class.Esr = refl
all_frames class.Cmd = refl
all_frames class.Rdy = refl
all_frames class.Idy = refl
all_frames class.Isr = refl

frame_clean : (f : Frame) → IsFrame f → has_no_feed (text_of f) ≡ true
frame_clean f h = all_below-at (λ n. has_no_feed (text_of (framed f.class n))) 256 f.byte (all_frames f.class) h

outcome_clean : (o : Outcome) → IsOutcome o → has_no_feed (outcome_text o) ≡ true
outcome_clean (outcome.Back f) h = joined (codes " = ") (text_of f) refl (frame_clean f h)
outcome_clean (outcome.Taken party) h = joined (codes " > ") (decimal party) refl (number_clean party h)
outcome_clean (outcome.Lost party) h = joined (codes " ! ") (decimal party) refl (number_clean party h)

entry_clean : (e : Entry) → IsEntry e → has_no_feed (entry_text e) ≡ true
entry_clean e h =
    ap has_no_feed (entry_text-parts e)
    ∙ joined (codes "~ ") (decimal e.source ++ 32 ∷ tail_of e) refl
    (joined (decimal e.source) (32 ∷ tail_of e) (number_clean e.source h.0)
    (joined (text_of e.frame) (outcome_text e.outcome) (frame_clean e.frame h.1) (outcome_clean e.outcome h.2)))

-- ---- the lines of a trace

-- a line is cut off at its line feed
cut_off : (line rest : List ℕ) → has_no_feed line ≡ true
    → line_cut (line ++ 10 ∷ rest) ≡ record { whole = line ∷ (line_cut rest).whole; open_line = (line_cut rest).open_line }
cut_off [] rest none = refl
cut_off (x ∷ line) rest none =
    let parts = and_parts (is_no_feed x) (has_no_feed line) none in
    ap (cut_before x) (cut_off line rest parts.1) ∙ before x (line ∷ (line_cut rest).whole) (line_cut rest).open_line parts.0
  where
    before : (x : ℕ) (whole : List (List ℕ)) (open_line : List ℕ) → is_no_feed x ≡ true
        → cut_before x (record { whole = whole; open_line = open_line }) ≡ byte_before x whole open_line
    before x whole open_line off = by (x == 10) off
      where
        by : (b : Bool) → not b ≡ true
            → (if b then record { whole = [] ∷ whole; open_line = open_line } else byte_before x whole open_line) ≡ byte_before x whole open_line
        by true h = cc
        by false h = refl

pub lines_of_trace : (log : List Entry) → All IsEntry log → (line_cut (trace_text log)).whole ≡ map entry_text log
lines_of_trace [] are = refl
lines_of_trace (e ∷ log) are =
    ap (λ (text : List ℕ). (line_cut text).whole) (append_assoc (entry_text e) (10 ∷ []) (trace_text log))
    ∙ ap (λ (c : LineCut). c.whole) (cut_off (entry_text e) (trace_text log) (entry_clean e (All-head IsEntry e log are)))
    ∙ ap (λ lines. entry_text e ∷ lines) (lines_of_trace log (All-tail IsEntry e log are))

same_lines : (a b : List Entry) → All IsEntry a → All IsEntry b → map entry_text a ≡ map entry_text b → a ≡ b
same_lines [] [] ha hb is = refl
same_lines [] (y ∷ b) ha hb is = absurd (omega (arith, ap length is))
same_lines (x ∷ a) [] ha hb is = absurd (omega (arith, ap length is))
same_lines (x ∷ a) (y ∷ b) ha hb is =
    ap₂ (λ (e : Entry) (log : List Entry). e ∷ log)
    (only_entry y (entry_text x) (All-head IsEntry y b hb) (ap (λ (texts : List (List ℕ)). get_or texts 0 []) is) x (All-head IsEntry x a ha) refl)
    (same_lines a b (All-tail IsEntry x a ha) (All-tail IsEntry y b hb) (ap (drop 1) is))

pub same_log : (a b : List Entry) → All IsEntry a → All IsEntry b → trace_text a ≡ trace_text b → a ≡ b
same_log a b ha hb is =
    same_lines a b ha hb (sym (lines_of_trace a ha) ∙ ap (λ (text : List ℕ). (line_cut text).whole) is ∙ lines_of_trace b hb)
