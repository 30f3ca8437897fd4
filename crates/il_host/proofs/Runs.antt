-- A run over a script, line by line.
use Rattle.std.proofs.Common.{◌≡◌, ℕ, ◌≤◌, ◌<◌, ◌⊎◌, inl, inr, ◌&&◌, Bool, true, false, List, [], ◌∷◌, ◌++◌, Option, Some, None, if◌then◌else◌, length, take, map, refl, sym, ap, subst, ◌∙◌, arith, append-nil, append_assoc, length-append}
use Rattle.std.proofs.lemmas.List.{take-append-le, take_all}
use Rattle.std.proofs.lemmas.List.Elements.{filter_map-append}
use Rattle.std.specs.Prelude.{Result, Ok, Err}
use Rattle.std.specs.List.{cons_option}
use Rattle.std.specs.Io.KnownBytes.{Appends, IsAtEnd}
use Rattle.il_script.specs.declared.limits.TheConstants.{LONGEST_SCRIPT}
use Rattle.il_script.specs.LineCut.{line_cut, line_told, lines_of}
use Rattle.il_script.specs.Progress.{Progress, Given, GivesWhole, GivesAll, Turn, line_given}
use Rattle.il_script.specs.Replies.{is_ok}
use Rattle.il_script.specs.declared.lines.Line.{Line}
use Rattle.il_script.specs.declared.lines.Line.TheVariants.{End, Fault, Over}
use Rattle.il_script.specs.declared.reply.Reply.{Reply}
use Rattle.il_script.proofs.Gives.{given-front}
use Rattle.host_model.specs.Requests.{Item, Gathering, Outside, reads, gathering_by, gathered, item_by, item_of, items_from, items_in, items_of, left_open, lone_items}
use Rattle.host_model.specs.Steps.{Event}
use Rattle.host_model.specs.Runs.{items_asked, all_ok, event_text, event_texts, output}
use Rattle.host_model.specs.Leaves.{AsksFirst, WritesToLast, WritesPart}
use Rattle.host_model.specs.Endings.{HasEndingCause}
use Rattle.host_model.specs.Orders.{quiet_mode}
use Rattle.host_model.proofs.Growing.{all_ok_more, texts_more}
use Rattle.il_host.specs.HostView.{HostView, IsHost}
use Rattle.il_host.specs.Run.{Answers, AnswersScript, end_of, event_of}
use Rattle.il_ports.specs.Writing.{WritesAll}
use Rattle.il_host.specs.declared.ending.Ending.{Ending}
use Rattle.il_host.specs.declared.ending.Ending.TheVariants as ending
use Rattle.il_host.proofs.Answered.{Answered, answered_none, answered_more, answers_script}
use Rattle.il_ports.proofs.Writing.{appends-trans}
use Rattle.il_host.proofs.Known.{appends-none}

-- ---- items

-- of lines of which none begins a batch
pub lone_push : (given : List (Option (List ℕ))) (line : Option (List ℕ)) (item : Item) → item_of line ≡ Some item → lone_items (given ++ line ∷ []) ≡ lone_items given ++ item ∷ []
lone_push given line item i = filter_map-append item_of given (line ∷ []) ∙ ap (λ o. lone_items given ++ cons_option o []) i

gathered_append : (g : Gathering) (xs ys : List (Option (List ℕ))) → gathered g (xs ++ ys) ≡ gathered (gathered g xs) ys
gathered_append g [] ys = refl
gathered_append g (x ∷ xs) ys = gathered_append (gathering_by g (reads x)) xs ys

items_append : (g : Gathering) (xs ys : List (Option (List ℕ))) → items_from g (xs ++ ys) ≡ items_from g xs ++ items_from (gathered g xs) ys
items_append g [] ys = refl
items_append g (x ∷ xs) ys = go (item_by g (reads x)) (items_append (gathering_by g (reads x)) xs ys)
  where
    go : (o : Option Item) → items_from (gathering_by g (reads x)) (xs ++ ys) ≡ items_from (gathering_by g (reads x)) xs ++ items_from (gathered (gathering_by g (reads x)) xs) ys
        → cons_option o (items_from (gathering_by g (reads x)) (xs ++ ys)) ≡ cons_option o (items_from (gathering_by g (reads x)) xs) ++ items_from (gathered (gathering_by g (reads x)) xs) ys
    go None rest = rest
    go (Some item) rest = ap (λ items. item ∷ items) rest

-- a line more, which makes this item or none
items_push : (given : List (Option (List ℕ))) (standing : Gathering) (line : Option (List ℕ)) (o : Option Item) → gathered Outside given ≡ standing → item_by standing (reads line) ≡ o
    → items_in (given ++ line ∷ []) ≡ items_in given ++ cons_option o []
items_push given standing line o is makes = items_append Outside given (line ∷ []) ∙ ap (λ p. items_in given ++ cons_option p []) (ap (λ g. item_by g (reads line)) is ∙ makes)

-- ---- texts

-- nothing is written after the last event
output_is : (quiet : Bool) (events : List Event) (texts : List (List ℕ)) → output (quiet_mode quiet) events texts ≡ event_texts (quiet_mode quiet) events texts
output_is true events texts = append-nil (event_texts (quiet_mode true) events texts)
output_is false events texts = append-nil (event_texts (quiet_mode false) events texts)

writes_part : (quiet : Bool) (events : List Event) (texts : List (List ℕ)) (before now : Option (List ℕ)) → WritesToLast (quiet_mode quiet) events texts before now → WritesPart (quiet_mode quiet) events texts before now
writes_part true events texts before now h = h
writes_part false events texts before now h = h

-- ---- what was given, and answered

abbrev pub fresh : Progress
fresh = record { text = []; begun = []; held = []; taken = 0; ended = false }

false-not-true : false ≡ true → ⊥
false-not-true h = cc

given-fresh : (script : List ℕ) (left : Option (List ℕ)) → left ≡ Some script → Given script fresh left []
given-fresh script left e = record {
  behind = [];
  rest = script;
  known = e;
  whole = refl;
  count = refl;
  ended = λ (h : false ≡ true). absurd (false-not-true h);
  lines = inl (record { lines = refl; begun = refl });
}

-- the items of what was given of the script were answered, from v to w, and this stands open
pub record Sofar (quiet : Bool) (progress : Progress) (standing : Gathering) (v w : HostView) (left_before left before now : Option (List ℕ)) (ok : Bool) : Type 0 where
  pub given : List (Option (List ℕ))
  pub opens : gathered Outside given ≡ standing
  pub events : List Event
  pub texts : List (List ℕ)
  pub answered : Answered v w (items_in given) events texts
  pub stands : (script : List ℕ) → left_before ≡ Some script → Given script progress left given
  pub written : Appends before now (event_texts (quiet_mode quiet) events texts)
  pub replies : all_ok events ≡ ok

pub sofar-start : (quiet : Bool) (progress : Progress) (v : HostView) (left now : Option (List ℕ)) → progress ≡ fresh → IsHost v → Sofar quiet progress Outside v v left left now now true
sofar-start quiet progress v left now e host = record {
  given = [];
  opens = refl;
  events = [];
  texts = [];
  answered = answered_none v host;
  stands = λ script told. subst (λ (p : Progress). Given script p left []) (sym e) (given-fresh script left told);
  written = appends-none now;
  replies = refl;
}

-- ---- the answer of a turn

-- what one call of `next` says of the script
abbrev pub GivesLine : Progress → Option (List ℕ) → Progress → Option (List ℕ) → Line → Type 0
GivesLine old before new now line = (script : List ℕ) (given : List (Option (List ℕ))) → Given script old before given → Turn script new now given line

turn-line : (script : List ℕ) (new : Progress) (left : Option (List ℕ)) (given : List (Option (List ℕ))) (line : Line)
    → (line ≡ End → ⊥) → (line ≡ Fault → ⊥) → (line ≡ Over → ⊥) → Turn script new left given line → Given script new left (given ++ line_given new line ∷ [])
turn-line script new left given End a b d t = absurd (a refl)
turn-line script new left given Fault a b d t = absurd (b refl)
turn-line script new left given Over a b d t = absurd (d refl)
turn-line script new left given _ a b d t = t

-- the turn gave a line more, and the host stands as before
pub sofar-gives : (quiet : Bool) (old new : Progress) (standing : Gathering) (v w : HostView) (left_before left left' before now : Option (List ℕ)) (ok : Bool) (line : Line)
    → (s : Sofar quiet old standing v w left_before left before now ok) → GivesLine old left new left' line
    → (line ≡ End → ⊥) → (line ≡ Fault → ⊥) → (line ≡ Over → ⊥)
    → (script : List ℕ) → left_before ≡ Some script → Given script new left' (s.given ++ line_given new line ∷ [])
sofar-gives quiet old new standing v w left_before left left' before now ok line s gives a b d script told =
    turn-line script new left' s.given line a b d (gives script s.given (s.stands script told))

opens_more : (given : List (Option (List ℕ))) (line : Option (List ℕ)) (standing after : Gathering) → gathered Outside given ≡ standing → after ≡ gathering_by standing (reads line) → gathered Outside (given ++ line ∷ []) ≡ after
opens_more given line standing after is goes = gathered_append Outside given (line ∷ []) ∙ ap (λ g. gathering_by g (reads line)) is ∙ sym goes

-- a line that asks for nothing
pub sofar-skips : (quiet : Bool) (old new : Progress) (standing after : Gathering) (v w : HostView) (left_before left left' before now : Option (List ℕ)) (ok : Bool) (line : Option (List ℕ))
    → (s : Sofar quiet old standing v w left_before left before now ok) → ((script : List ℕ) → left_before ≡ Some script → Given script new left' (s.given ++ line ∷ []))
    → after ≡ gathering_by standing (reads line) → item_by standing (reads line) ≡ None → Sofar quiet new after v w left_before left' before now ok
sofar-skips quiet old new standing after v w left_before left left' before now ok line s g goes n = record {
  given = s.given ++ line ∷ [];
  opens = opens_more s.given line standing after s.opens goes;
  events = s.events;
  texts = s.texts;
  answered = subst (λ items. Answered v w items s.events s.texts) (sym (items_push s.given standing line None s.opens n ∙ append-nil (items_in s.given))) s.answered;
  stands = g;
  written = s.written;
  replies = s.replies;
}

-- ---- a line that was answered

-- an item more, and the items that it makes
module _ {E : Type 0} (quiet : Bool) (old : Progress) (standing : Gathering) (v w x : HostView) (left_before left before now now' : Option (List ℕ)) (ok : Bool) (item : Item) (r : Reply)
    (written : Result (Unit {0}) E) (s : Sofar quiet old standing v w left_before left before now ok) (a : Answers item r (quiet_mode quiet) w x now now' written) where
  abbrev e : Event
  e = event_of item r a.log w x

  answered_all : (items : List Item) → items ≡ items_in s.given ++ item ∷ [] → Answered v x items (s.events ++ e ∷ []) (s.texts ++ a.text ∷ [])
  answered_all items is = subst (λ items. Answered v x items (s.events ++ e ∷ []) (s.texts ++ a.text ∷ [])) (sym is) (answered_more v w x (items_in s.given) s.events s.texts item r (quiet_mode quiet) now now' written s.answered a)

  -- its text was written
  written_all : (u : Unit {0}) → written ≡ Ok u → Appends before now' (event_texts (quiet_mode quiet) (s.events ++ e ∷ []) (s.texts ++ a.text ∷ []))
  written_all u is =
      let here = subst (λ (r : Result (Unit {0}) E). WritesAll now now' (event_text (quiet_mode quiet) e a.text) r) is a.bytes in
      subst (λ l. Appends before now' l) (sym (texts_more (quiet_mode quiet) s.events s.texts e a.text s.answered.texts_are))
      (appends-trans before now now' (event_texts (quiet_mode quiet) s.events s.texts) (event_text (quiet_mode quiet) e a.text) s.written here)

  replies_all : (all : Bool) → all ≡ (ok && is_ok r) → all_ok (s.events ++ e ∷ []) ≡ all
  replies_all all o = all_ok_more s.events e ∙ ap (λ b. b && is_ok r) s.replies ∙ sym o

  -- or the sink failed
  failed_at : (failed : E) → written ≡ Err failed → (items : List Item) → items ≡ items_in s.given ++ item ∷ [] → ((script : List ℕ) → left_before ≡ Some script → AsksFirst script items) → (left' : Option (List ℕ))
      → AnswersScript None ending.SinkFailed (quiet_mode quiet) v x left_before left' before now'
  failed_at failed is items items_are first left' =
      let answered = answered_all items items_are in
      answers_script None ending.SinkFailed (quiet_mode quiet) v x left_before left' before now' _ (s.events ++ e ∷ []) (s.texts ++ a.text ∷ []) answered
      (λ script told. let asks = first script told in record { more = asks.more; are = asks.are ∙ ap (λ l. l ++ asks.more) (sym answered.asked) })
      tt
      (let here = subst (λ (r : Result (Unit {0}) E). WritesAll now now' (event_text (quiet_mode quiet) e a.text) r) is a.bytes in
      let done = subst (λ l. Appends before now l) (sym (output_is quiet s.events s.texts)) s.written in
      writes_part quiet (s.events ++ e ∷ []) (s.texts ++ a.text ∷ []) before now' (record {
        done = s.events;
        last = e;
        are = refl;
        said = s.texts;
        text = a.text;
        texts_are = refl;
        size = here.0;
        front = here.1;
        written = appends-trans before now now' (output (quiet_mode quiet) s.events s.texts) (take here.0 (event_text (quiet_mode quiet) e a.text)) done here.2;
      }))

-- of a line
module _ {E : Type 0} (quiet : Bool) (old new : Progress) (standing after : Gathering) (v w x : HostView) (left_before left left' before now now' : Option (List ℕ)) (ok : Bool) (line : Option (List ℕ)) (item : Item) (r : Reply)
    (written : Result (Unit {0}) E) (s : Sofar quiet old standing v w left_before left before now ok)
    (g : (script : List ℕ) → left_before ≡ Some script → Given script new left' (s.given ++ line ∷ [])) (goes : after ≡ gathering_by standing (reads line)) (i : item_by standing (reads line) ≡ Some item)
    (a : Answers item r (quiet_mode quiet) w x now now' written) where
  items_now : items_in (s.given ++ line ∷ []) ≡ items_in s.given ++ item ∷ []
  items_now = items_push s.given standing line (Some item) s.opens i

  pub sofar-more : (all : Bool) (u : Unit {0}) → written ≡ Ok u → all ≡ (ok && is_ok r) → Sofar quiet new after v x left_before left' before now' all
  sofar-more all u is o = record {
    given = s.given ++ line ∷ [];
    opens = opens_more s.given line standing after s.opens goes;
    events = s.events ++ event_of item r a.log w x ∷ [];
    texts = s.texts ++ a.text ∷ [];
    answered = answered_all quiet old standing v w x left_before left before now now' ok item r written s a (items_in (s.given ++ line ∷ [])) items_now;
    stands = g;
    written = written_all quiet old standing v w x left_before left before now now' ok item r written s a u is;
    replies = replies_all quiet old standing v w x left_before left before now now' ok item r written s a all o;
  }

  pub ends-front : (failed : E) → written ≡ Err failed → AnswersScript None ending.SinkFailed (quiet_mode quiet) v x left_before left' before now'
  ends-front failed is = failed_at quiet old standing v w x left_before left before now now' ok item r written s a failed is (items_in (s.given ++ line ∷ [])) items_now
      (λ script told.
      let f = given-front script new left' (s.given ++ line ∷ []) (g script told) in
      let all : List (Option (List ℕ)) = map line_told (lines_of script) in
      record {
        more = items_from (gathered Outside (s.given ++ line ∷ [])) f.more ++ left_open (gathered Outside all);
        are = ap (λ ls. items_in ls ++ left_open (gathered Outside all)) f.whole
            ∙ ap (λ items. items ++ left_open (gathered Outside all)) (items_append Outside (s.given ++ line ∷ []) f.more)
            ∙ append_assoc (items_in (s.given ++ line ∷ [])) (items_from (gathered Outside (s.given ++ line ∷ [])) f.more) (left_open (gathered Outside all));
      }) left'

-- ---- ends

going-whole : (behind : List ℕ) (new : Progress) (given : List (Option (List ℕ))) → new.ended ≡ false → GivesWhole behind new.begun given ⊎ GivesAll behind new given → given ≡ map line_told (line_cut behind).whole
going-whole behind new given e (inl w) = w.lines
going-whole behind new given e (inr w) = absurd (false-not-true (sym e ∙ w.ended))

held-whole : (behind : List ℕ) (new : Progress) (given : List (Option (List ℕ))) → 0 < length new.held → GivesWhole behind new.begun given ⊎ GivesAll behind new given → given ≡ map line_told (line_cut behind).whole
held-whole behind new given e (inl w) = w.lines
held-whole behind new given e (inr w) = absurd (omega (arith, ap length w.held))

-- the turn that gave no line
module _ (quiet : Bool) (old new : Progress) (standing : Gathering) (v w : HostView) (left_before left left' before now : Option (List ℕ)) (ok : Bool) (s : Sofar quiet old standing v w left_before left before now ok) where
  whole : Appends before now (output (quiet_mode quiet) s.events s.texts)
  whole = subst (λ l. Appends before now l) (sym (output_is quiet s.events s.texts)) s.written

  -- the script was read to its end, where this is left open
  ended : (script : List ℕ) → GivesLine old left new left' End → left_before ≡ Some script → (items_of script ≡ items_in s.given ++ left_open standing) × IsAtEnd left' × (length script ≤ LONGEST_SCRIPT)
  ended script gives told =
      let t = gives script s.given (s.stands script told) in
      (sym (ap (λ ls. items_in ls ++ left_open (gathered Outside ls)) t.0) ∙ ap (λ g. items_in s.given ++ left_open g) s.opens, t.1, t.2)

  -- nothing is left open
  pub ends-whole : GivesLine old left new left' End → left_open standing ≡ [] → (end : Ending) → end ≡ (if ok then ending.AllOk else ending.SomeNotOk) → AnswersScript None end (quiet_mode quiet) v w left_before left' before now
  ends-whole gives none end is = subst (λ (d : Ending). AnswersScript None d (quiet_mode quiet) v w left_before left' before now) (sym is) (by ok s.replies)
    where
      asks : (script : List ℕ) → left_before ≡ Some script → (items_asked s.events ≡ items_of script) × IsAtEnd left' × (length script ≤ LONGEST_SCRIPT)
      asks script told =
          let e = ended script gives told in
          (s.answered.asked ∙ sym (e.0 ∙ ap (λ items. items_in s.given ++ items) none ∙ append-nil (items_in s.given)), e.1, e.2)

      by : (b : Bool) → all_ok s.events ≡ b → AnswersScript None (if b then ending.AllOk else ending.SomeNotOk) (quiet_mode quiet) v w left_before left' before now
      by true good = answers_script None ending.AllOk (quiet_mode quiet) v w left_before left' before now _ s.events s.texts s.answered asks good whole
      by false bad = answers_script None ending.SomeNotOk (quiet_mode quiet) v w left_before left' before now _ s.events s.texts s.answered asks bad whole

  -- a batch is left open, and that was answered
  module _ {E : Type 0} (x : HostView) (now' : Option (List ℕ)) (item : Item) (r : Reply) (written : Result (Unit {0}) E) (a : Answers item r (quiet_mode quiet) w x now now' written) (leaves : left_open standing ≡ item ∷ []) (gives : GivesLine old left new left' End) where
    pub ends-open : (u : Unit {0}) → written ≡ Ok u → (end : Ending) → end ≡ (if ok && is_ok r then ending.AllOk else ending.SomeNotOk) → AnswersScript None end (quiet_mode quiet) v x left_before left' before now'
    ends-open u is end end_is = subst (λ (d : Ending). AnswersScript None d (quiet_mode quiet) v x left_before left' before now') (sym end_is) (by (ok && is_ok r) (replies_all quiet old standing v w x left_before left before now now' ok item r written s a (ok && is_ok r) refl))
      where
        answered : Answered v x (items_in s.given ++ item ∷ []) (s.events ++ event_of item r a.log w x ∷ []) (s.texts ++ a.text ∷ [])
        answered = answered_all quiet old standing v w x left_before left before now now' ok item r written s a (items_in s.given ++ item ∷ []) refl

        asks : (script : List ℕ) → left_before ≡ Some script → (items_asked (s.events ++ event_of item r a.log w x ∷ []) ≡ items_of script) × IsAtEnd left' × (length script ≤ LONGEST_SCRIPT)
        asks script told =
            let e = ended script gives told in
            (answered.asked ∙ sym (e.0 ∙ ap (λ items. items_in s.given ++ items) leaves), e.1, e.2)

        all_written : Appends before now' (output (quiet_mode quiet) (s.events ++ event_of item r a.log w x ∷ []) (s.texts ++ a.text ∷ []))
        all_written = subst (λ l. Appends before now' l) (sym (output_is quiet (s.events ++ event_of item r a.log w x ∷ []) (s.texts ++ a.text ∷ [])))
            (written_all quiet old standing v w x left_before left before now now' ok item r written s a u is)

        by : (b : Bool) → all_ok (s.events ++ event_of item r a.log w x ∷ []) ≡ b → AnswersScript None (if b then ending.AllOk else ending.SomeNotOk) (quiet_mode quiet) v x left_before left' before now'
        by true good = answers_script None ending.AllOk (quiet_mode quiet) v x left_before left' before now' _ (s.events ++ event_of item r a.log w x ∷ []) (s.texts ++ a.text ∷ []) answered asks good all_written
        by false bad = answers_script None ending.SomeNotOk (quiet_mode quiet) v x left_before left' before now' _ (s.events ++ event_of item r a.log w x ∷ []) (s.texts ++ a.text ∷ []) answered asks bad all_written

    pub ends-open-front : (failed : E) → written ≡ Err failed → AnswersScript None ending.SinkFailed (quiet_mode quiet) v x left_before left' before now'
    ends-open-front failed is = failed_at quiet old standing v w x left_before left before now now' ok item r written s a failed is (items_in s.given ++ item ∷ []) refl
        (λ script told. record { more = []; are = (ended script gives told).0 ∙ ap (λ items. items_in s.given ++ items) leaves ∙ sym (append-nil (items_in s.given ++ item ∷ [])) }) left'

  -- the source failed
  pub ends-taken : GivesLine old left new left' Fault → (new.ended ≡ false) × (new.held ≡ []) → AnswersScript None ending.SourceFailed (quiet_mode quiet) v w left_before left' before now
  ends-taken gives e = answers_script None ending.SourceFailed (quiet_mode quiet) v w left_before left' before now _ s.events s.texts s.answered
      (λ script told.
      let t = gives script s.given (s.stands script told) in
      record {
        taken = t.behind;
        rest = t.rest;
        known = t.known;
        whole = t.whole ∙ ap (λ h. t.behind ++ (h ++ t.rest)) e.1;
        are = s.answered.asked ∙ ap items_in (going-whole t.behind new s.given e.0 t.lines);
      })
      tt whole

  -- the script is too long
  pub ends-longest : GivesLine old left new left' Over → (new.taken ≡ LONGEST_SCRIPT) × (0 < length new.held) → AnswersScript None ending.ScriptTooLong (quiet_mode quiet) v w left_before left' before now
  ends-longest gives e = answers_script None ending.ScriptTooLong (quiet_mode quiet) v w left_before left' before now _ s.events s.texts s.answered
      (λ script told.
      let t = gives script s.given (s.stands script told) in
      let size : length t.behind ≡ LONGEST_SCRIPT = sym t.count ∙ e.0 in
      let front : take LONGEST_SCRIPT script ≡ t.behind = ap (take LONGEST_SCRIPT) t.whole ∙ take-append-le LONGEST_SCRIPT t.behind (new.held ++ t.rest) (omega arith) ∙ take_all LONGEST_SCRIPT t.behind (omega arith) in (
        omega (arith, ap length t.whole, length-append t.behind (new.held ++ t.rest), length-append new.held t.rest),
        s.answered.asked ∙ ap items_in (held-whole t.behind new s.given e.1 t.lines) ∙ ap (λ l. items_in (map line_told (line_cut l).whole)) (sym front),
      ))
      tt whole

-- the counts of faults after a script that was answered whole
pub whole_cause : (b : Bool) (end : Ending) (source source_now sink sink_now medium medium_now : ℕ) → end ≡ (if b then ending.AllOk else ending.SomeNotOk) → source_now ≡ source → sink_now ≡ sink → medium ≤ medium_now
    → HasEndingCause (end_of end) source source_now sink sink_now medium medium_now
whole_cause b end source source_now sink sink_now medium medium_now is source_is sink_is grown = subst (λ (d : Ending). HasEndingCause (end_of d) source source_now sink sink_now medium medium_now) (sym is) (by b)
  where
    by : (b : Bool) → HasEndingCause (end_of (if b then ending.AllOk else ending.SomeNotOk)) source source_now sink sink_now medium medium_now
    by true = record { source = source_is; sink = sink_is; medium = grown }
    by false = record { source = source_is; sink = sink_is; medium = grown }
