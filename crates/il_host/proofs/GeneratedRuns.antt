-- The lines of a generated script, and a run over them.
use Rattle.std.proofs.Common.{◌≡◌, ◌≢◌, ◌≤◌, ◌<◌, ◌+◌, ◌-◌, ◌%◌, ◌==◌, ◌++◌, ◌&&◌, ◌∙◌, ℕ, zero, suc, true, false, if◌then◌else◌, List, [], ◌∷◌, Option, Some, None, length, refl, sym, ap, subst, arith, add-one, append_assoc, append-nil, length-append}
use Rattle.std.specs.Prelude.{Ok, map, is_some}
use Rattle.std.specs.Io.KnownBytes.{Appends}
use Rattle.std.proofs.Math.Bool.{and-false}
use Rattle.std.proofs.lemmas.Bool.{lt-ltb, le-ltb, eq-eqb, ne_eqb}
use Rattle.std.proofs.lemmas.List.{length-map, map-append}
use Rattle.hex.specs.Hex.{encode_upper}
use Rattle.il_script.specs.Replies.{next, is_ok}
use Rattle.il_script.specs.Sheet.{Sheet}
use Rattle.il_script.specs.declared.reply.Reply.{Reply}
use Rattle.il_script.specs.declared.reply.Reply.TheVariants as reply
use Rattle.il_script.proofs.UpperDigits.{encode-append}
use Rattle.host_model.specs.Requests.{item_of, lone_items}
use Rattle.host_model.specs.Generated.{draw, drawn, stores, rising, store_line, purge_line, fetch_line, chosen_line, more_lines, generated_lines, items_generated}
use Rattle.host_model.specs.Steps.{Event}
use Rattle.host_model.specs.Runs.{Summary, Tally, with_reply, tally_of, replies, items_asked, all_ok, event_texts, summary, tally_text, output}
use Rattle.il_ports.specs.Writing.{WritesFront}
use Rattle.host_model.specs.Leaves.{AsksGenerated, IsOkAs, WritesAs}
use Rattle.host_model.proofs.Generated.{first_is_item, chosen_is_item, items_generated-length}
use Rattle.host_model.proofs.Growing.{tally_more}
use Rattle.il_host.specs.HostView.{HostView, IsHost}
use Rattle.il_host.specs.Run.{AnswersScript, end_of, event_of}
use Rattle.il_host.specs.Generating.{next_line, next_state, line_at, state_at, AnswersLine, is_all_ok}
use Rattle.il_host.specs.declared.ending.Ending.{Ending}
use Rattle.il_host.specs.declared.ending.Ending.TheVariants as ending
use Rattle.il_host.proofs.Answered.{Answered, answered_none, answered_more, answers_script}
use Rattle.il_host.proofs.Runs.{lone_push}

-- ---- bytes

-- one byte more at the end
rising-more : (first count : ℕ) → rising first (suc count) ≡ rising first count ++ (first + count) % 256 ∷ []
rising-more first zero = ap (λ n. n % 256 ∷ []) (omega arith)
rising-more first (suc count) = ap (λ l. first % 256 ∷ l) (rising-more (first + 1) count ∙ ap (λ n. rising (first + 1) count ++ n % 256 ∷ []) (omega arith))

pub rising_text : (text page : List ℕ) (first count : ℕ) → page ≡ text ++ next (encode_upper (rising first count))
    → page ++ encode_upper ((first + count) % 256 ∷ []) ≡ text ++ next (encode_upper (rising first (count + 1)))
rising_text text page first count is =
    let byte = (first + count) % 256 ∷ [] in
    ap (λ l. l ++ encode_upper byte) is ∙ append_assoc text (next (encode_upper (rising first count))) (encode_upper byte)
    ∙ ap (λ l. text ++ next l) (sym (encode-append (rising first count) byte) ∙ ap encode_upper (sym (rising-more first count) ∙ ap (rising first) (sym (add-one count))))

-- ---- pages

-- one text after the other
pub put_then : (p q r : Sheet) (a b : List ℕ) → q ≡ record p { text = p.text ++ a } → r ≡ record q { text = q.text ++ b } → r ≡ record p { text = p.text ++ (a ++ b) }
put_then p q r a b first second = second ∙ ap (λ (s : Sheet). record s { text = s.text ++ b }) first ∙ ap (λ l. record p { text = l }) (append_assoc p.text a b)

pub put_size : (p q : Sheet) (a : List ℕ) → q ≡ record p { text = p.text ++ a } → length q.text ≡ length p.text + length a
put_size p q a is = ap (λ (s : Sheet). length s.text) is ∙ length-append p.text a

-- on an empty page
pub put_alone : (p q : Sheet) (a line : List ℕ) → p.text ≡ [] → q ≡ record p { text = p.text ++ a } → a ≡ line → q ≡ record p { text = line }
put_alone p q a line empty is same = is ∙ ap (λ l. record p { text = l ++ a }) empty ∙ ap (λ l. record p { text = l }) same

-- nothing but a line
pub put_line_is : (p q : Sheet) (line text : List ℕ) → q ≡ record p { text = line } → text ≡ q.text → text ≡ line
put_line_is p q line text is same = same ∙ ap (λ (s : Sheet). s.text) is

-- ---- the draws of a line

-- two draws were made, of which the second chooses
module _ (x first second j c : ℕ) (once : first ≡ draw x) (twice : second ≡ draw first) (j_is : j ≡ drawn first) (c_is : c ≡ drawn second) where
  second_is : second ≡ draw (draw x)
  second_is = twice ∙ ap draw once

  j_now : j ≡ drawn (draw x)
  j_now = j_is ∙ ap drawn once

  c_now : c ≡ drawn (draw (draw x))
  c_now = c_is ∙ ap drawn second_is

  line_is : chosen_line j c (drawn (draw second)) ≡ next_line x
  unfolding next_line
  line_is = λ i. chosen_line (j_now i) (c_now i) (drawn (draw (second_is i)))

  state_is : (if stores c then draw second else second) ≡ next_state x
  unfolding next_state
  state_is = λ i. if stores (c_now i) then draw (second_is i) else second_is i

  pub line_stores : (third l : ℕ) → third ≡ draw second → l ≡ drawn third → c % 4 < 2 → (store_line j l ≡ next_line x) × (third ≡ next_state x)
  line_stores third l thrice l_is few =
      let few_is : stores c ≡ true = lt-ltb (c % 4) 2 few in (
        ap (store_line j) (l_is ∙ ap drawn thrice)
            ∙ sym (ap (λ b. if b then store_line j (drawn (draw second)) else if c % 4 == 2 then purge_line j else fetch_line j) few_is) ∙ line_is,
        thrice ∙ sym (ap (λ b. if b then draw second else second) few_is) ∙ state_is,
      )

  -- and the third one is left
  module _ (many : 2 ≤ c % 4) where
    many_is : stores c ≡ false
    many_is = le-ltb (c % 4) 2 many

    pub state_stays : second ≡ next_state x
    state_stays = sym (ap (λ b. if b then draw second else second) many_is) ∙ state_is

    other_is : (if c % 4 == 2 then purge_line j else fetch_line j) ≡ next_line x
    other_is = sym (ap (λ b. if b then store_line j (drawn (draw second)) else if c % 4 == 2 then purge_line j else fetch_line j) many_is) ∙ line_is

    pub line_purges : c % 4 ≡ 2 → purge_line j ≡ next_line x
    line_purges is = sym (ap (λ b. if b then purge_line j else fetch_line j) (eq-eqb (c % 4) 2 is)) ∙ other_is

    pub line_fetches : c % 4 ≢ 2 → fetch_line j ≡ next_line x
    line_fetches not = sym (ap (λ b. if b then purge_line j else fetch_line j) (ne_eqb (c % 4) 2 not)) ∙ other_is

-- ---- the lines from a place on

pub lines_at : ℕ → ℕ → ℕ → List (List ℕ)
lines_at zero x count = generated_lines x count
lines_at (suc place) x count = more_lines x count

lines-more : (place x count : ℕ) → lines_at place x (suc count) ≡ line_at place x ∷ lines_at (suc place) (state_at place x) count
unfolding lines_at next_line next_state
lines-more zero x count = refl
lines-more (suc place) x count = refl

at_is_item : (place x : ℕ) → is_some (item_of (Some (line_at place x))) ≡ true
unfolding next_line
at_is_item zero x = first_is_item
at_is_item (suc place) x = chosen_is_item (drawn (draw x)) (drawn (draw (draw x))) (drawn (draw (draw (draw x))))

-- each is an item
pub line_is_item : (place x : ℕ) (line : List ℕ) → line ≡ line_at place x → is_some (item_of (Some line)) ≡ true
line_is_item place x line is = ap (λ l. is_some (item_of (Some l))) is ∙ at_is_item place x

-- ---- what was answered

-- the lines before a place were made and answered, from v to w, and their replies counted
pub record Generating (seed count place state : ℕ) (v w : HostView) (t : Tally) : Type 0 where
  pub lines : List (List ℕ)
  pub events : List Event
  pub texts : List (List ℕ)
  pub answered : Answered v w (lone_items (map Some lines)) events texts
  pub whole : generated_lines seed count ≡ lines ++ lines_at place state (count - place)
  pub counted : tally_of (replies events) ≡ t

pub none_generated : (seed count : ℕ) (v : HostView) → IsHost v → Generating seed count 0 seed v v (tally_of [])
unfolding lines_at
none_generated seed count v host = record {
  lines = [];
  events = [];
  texts = [];
  answered = answered_none v host;
  whole = ap (generated_lines seed) (omega arith);
  counted = refl;
}

pub one_more_generated : (seed count place state state' : ℕ) (v w x : HostView) (t t' : Tally) (line : List ℕ) (r : Reply) → Generating seed count place state v w t → place < count
    → line ≡ line_at place state → state' ≡ state_at place state → AnswersLine line r w x → t' ≡ with_reply r t → Generating seed count (place + 1) state' v x t'
one_more_generated seed count place state state' v w x t t' line r s within line_is state_is a counts =
    let answers = a.answers None in
    let e : Event = event_of a.item r answers.log w x in
    let more : lone_items (map Some (s.lines ++ line ∷ [])) ≡ lone_items (map Some s.lines) ++ a.item ∷ [] =
    ap lone_items (map-append Some s.lines (line ∷ [])) ∙ lone_push (map Some s.lines) (Some line) a.item a.asks in
    let left : count - place ≡ suc (count - (place + 1)) = omega arith in
    record {
      lines = s.lines ++ line ∷ [];
      events = s.events ++ e ∷ [];
      texts = s.texts ++ answers.text ∷ [];
      answered = subst (λ items. Answered v x items (s.events ++ e ∷ []) (s.texts ++ answers.text ∷ [])) (sym more)
          (answered_more v w x (lone_items (map Some s.lines)) s.events s.texts a.item r Summary None None (Ok tt) s.answered answers);
      whole = s.whole ∙ ap (λ n. s.lines ++ lines_at place state n) left ∙ ap (λ l. s.lines ++ l) (lines-more place state (count - (place + 1)))
          ∙ sym (append_assoc s.lines (line_at place state ∷ []) (lines_at (suc place) (state_at place state) (count - (place + 1))))
          ∙ (λ i. (s.lines ++ (sym line_is) i ∷ []) ++ lines_at ((sym (add-one place)) i) ((sym state_is) i) (count - (place + 1)));
      counted = ap tally_of (map-append (λ (d : Event). d.reply) s.events (e ∷ [])) ∙ tally_more (replies s.events) r ∙ ap (with_reply r) s.counted ∙ sym counts;
    }

-- ---- the summary

-- nothing is written for one event
silent : (events : List Event) (texts : List (List ℕ)) → event_texts Summary events texts ≡ []
silent (e ∷ events) (text ∷ texts) = silent events texts
silent _ _ = refl

counts_ok : (r : Reply) (t : Tally) → (is_ok r && is_all_ok t) ≡ is_all_ok (with_reply r t)
counts_ok reply.Ok t = refl
counts_ok (reply.No code) t = sym (ap (λ b. b && t.faults == 0) (ne_eqb (t.errors + 1) 0 (λ e. omega arith)))
counts_ok _ t = sym (ap (λ b. t.errors == 0 && b) (ne_eqb (t.faults + 1) 0 (λ e. omega arith)) ∙ and-false (t.errors == 0))

all_ok_is : (events : List Event) → all_ok events ≡ is_all_ok (tally_of (replies events))
all_ok_is [] = refl
all_ok_is (e ∷ events) = ap (λ b. is_ok e.reply && b) (all_ok_is events) ∙ counts_ok e.reply (tally_of (replies events))

-- ---- ends

nothing_left : (place x : ℕ) → lines_at place x 0 ≡ []
unfolding lines_at
nothing_left zero x = refl
nothing_left (suc place) x = refl

-- all lines were answered, and their summary was put onto a page
module _ (seed count place state : ℕ) (v w : HostView) (t : Tally) (page cleared told : Sheet) (text : List ℕ) (left before now : Option (List ℕ)) (s : Generating seed count place state v w t) (end : count ≤ place)
    (clears : cleared ≡ record page { text = [] }) (puts : told ≡ record cleared { text = cleared.text ++ tally_text count t }) (gives : text ≡ told.text) where
  text_is : text ≡ tally_text count t
  text_is = gives ∙ ap (λ (p : Sheet). p.text) puts ∙ ap (λ (p : Sheet). p.text ++ tally_text count t) clears

  asks : items_asked s.events ≡ items_generated seed count
  asks =
      let none : lines_at place state (count - place) ≡ [] = ap (lines_at place state) (omega arith) ∙ nothing_left place state in
      s.answered.asked ∙ ap (λ l. lone_items (map Some l)) (sym (s.whole ∙ ap (λ l. s.lines ++ l) none ∙ append-nil s.lines))

  size : length s.events ≡ count
  size = sym (length-map s.events (λ (e : Event). e.item)) ∙ ap length asks ∙ items_generated-length seed count

  summary_is : text ≡ summary s.events
  summary_is = text_is ∙ (λ i. tally_text ((sym size) i) ((sym s.counted) i))

  output_is : text ≡ output Summary s.events s.texts
  output_is = summary_is ∙ sym (ap (λ l. l ++ summary s.events) (silent s.events s.texts))

  oks : all_ok s.events ≡ is_all_ok t
  oks = all_ok_is s.events ∙ ap is_all_ok s.counted

  -- so the run ends, by what was written
  ends : (e : Ending) → AsksGenerated (end_of e) (seed, count) (items_asked s.events) → IsOkAs (end_of e) s.events → WritesAs (end_of e) Summary s.events s.texts before now
      → AnswersScript (Some (seed, count)) e Summary v w left left before now
  ends e asked ok written = answers_script (Some (seed, count)) e Summary v w left left before now _ s.events s.texts s.answered (asked, refl) ok written

  written_is : Appends before now text → Appends before now (output Summary s.events s.texts)
  written_is written = subst (λ l. Appends before now l) output_is written

  pub generated_ok : Appends before now text → is_all_ok t ≡ true → AnswersScript (Some (seed, count)) ending.AllOk Summary v w left left before now
  generated_ok written e = ends ending.AllOk asks (oks ∙ e) (written_is written)

  pub generated_not_ok : Appends before now text → is_all_ok t ≡ false → AnswersScript (Some (seed, count)) ending.SomeNotOk Summary v w left left before now
  generated_not_ok written e = ends ending.SomeNotOk asks (oks ∙ e) (written_is written)

  pub generated_front : WritesFront before now text → AnswersScript (Some (seed, count)) ending.SinkFailed Summary v w left left before now
  generated_front front = ends ending.SinkFailed asks tt (subst (λ l. WritesFront before now l) summary_is front)
