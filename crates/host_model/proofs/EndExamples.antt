-- Worked examples of how runs end, computed by the checker: each ending with a run that ends so, and what none leaves.
use Rattle.std.proofs.Common.{◌≡◌, ◌≢◌, ◌≤◌, ◌<◌, ◌+◌, ◌++◌, ◌∙◌, ℕ, zero, suc, Bool, if◌then◌else◌, List, [], ◌∷◌, Option, Some, None, true, false, inl, inr, refl, sym, ap, subst, arith, length, replicate, codes, append-nil}
use Rattle.std.specs.Prelude.{◌-◌, get_or, map, unwrap_or, is_some}
use Rattle.std.specs.Fmt.{digits}
use Rattle.hex.specs.Hex.{encode_with}
use Rattle.std.specs.Str.{bytes_eq}
use Rattle.std.proofs.lemmas.Slice.Eq.{bytes_eq-Decides}
use Rattle.std.proofs.lemmas.List.{length-append, length-replicate, get_or-replicate, take-replicate}
use Rattle.lif_model.specs.Tape.{Tape, IsTape}
use Rattle.il_device.specs.State.{DeviceState}
use Rattle.lif_model.specs.Shelf.{blank, bytes_of, image_of, inserted, largest_image}
use Rattle.il_script.specs.LineCut.{line_cut, line_told}
use Rattle.il_script.specs.declared.limits.TheConstants.{LONGEST_SCRIPT}
use Rattle.il_script.specs.declared.reply.Code.TheVariants as code
use Rattle.il_ring.specs.declared.plan.Planned.{Planned}
use Rattle.host_model.specs.Requests.{Item, Status, Asks, NoCommand, items_in}
use Rattle.host_model.specs.HostStates.{HostState}
use Rattle.host_model.specs.Replies.{trace_text}
use Rattle.host_model.specs.Steps.{Event}
use Rattle.host_model.specs.Runs.{AreTextsOf, Chained, items_asked, OutputMode, WithTrace, Quiet, Summary, event_texts, output, reply_text_of}
use Rattle.host_model.specs.Endings.{RunEnd, AllOk, SomeNotOk, BadWords, NoImage, ImageTooLarge, SourceFailed, SinkFailed, OutOfMemory, ScriptTooLong, InsertFailed, exit_status, HasEndingCause}
use Rattle.host_model.specs.Orders.{Order, Outside, mode_of}
use Rattle.host_model.specs.Leaves.{AsksAs, AsksScript, IsOkAs, IsUntouched, KeepsShelf, LeavesBy, RunSoFar, RunsOver}
use Rattle.host_model.proofs.Growing.{left_before}
use Rattle.host_model.proofs.NoCommands.{no_command, refusal}
use Rattle.host_model.proofs.Runs.{run_tells}
use Rattle.host_model.proofs.Tapes.{plain_run}
use Rattle.host_model.proofs.Small.{printer, host_on, texts_differ, numbers_differ, false_is_not_true}
use Rattle.host_model.proofs.StepExamples.{asked_on, lines, log_of, loss_on, lost_on, lost_step, sixth, status_on, status_pieces, status_step}

-- ---- words

-- a blank tape is made for a missing image
abbrev pub order : Order
order = record { image = codes "T"; made = Some 512; guest = false; plan = []; quiet = true; generated = None }

-- a script that is generated has its summary alone
modes : (mode_of order ≡ Quiet) × (mode_of (record order { quiet = false }) ≡ WithTrace) × (mode_of (record order { generated = Some (1, 8) }) ≡ Summary)
modes = (refl, refl, refl)

statuses : (exit_status AllOk ≡ 0) × (exit_status SomeNotOk ≡ 1) × (exit_status BadWords ≡ 2) × (exit_status NoImage ≡ 3) × (exit_status ImageTooLarge ≡ 4)
    × (exit_status SourceFailed ≡ 5) × (exit_status SinkFailed ≡ 6) × (exit_status OutOfMemory ≡ 7) × (exit_status ScriptTooLong ≡ 8) × (exit_status InsertFailed ≡ 9)
statuses = (refl, refl, refl, refl, refl, refl, refl, refl, refl, refl)

-- ---- counts of faults

source_failed : HasEndingCause SourceFailed 0 1 4 4 2 2
source_failed = record { source = record { later = omega arith; risen = omega arith }; sink = refl; medium = omega arith }

-- the source's count did not rise
not_by_the_source : HasEndingCause SourceFailed 0 0 4 4 2 2 → ⊥
not_by_the_source cause = let rose = cause.source.risen in absurd (omega (arith, rose))

-- ---- items

-- a last line without line feed is an item too
all_items : AsksScript SomeNotOk (codes "status" ++ 10 ∷ codes "list") (Some []) (Asks Status ∷ NoCommand code.BadLine ∷ [])
all_items = (refl, refl, omega arith)

last_dropped : AsksScript SomeNotOk (codes "status" ++ 10 ∷ codes "list") (Some []) (Asks Status ∷ []) → ⊥
last_dropped asks = numbers_differ 1 2 refl (ap length asks.0)

-- the end of the script was not reached
not_at_the_end : AsksScript AllOk (codes "status") (Some (codes "us")) (Asks Status ∷ []) → ⊥
not_at_the_end asks = numbers_differ 2 0 refl (ap length asks.1)

-- ---- a run over a blank tape that is made

zeros : List ℕ
zeros = replicate 256 0

blank_is_tape : IsTape 512 (blank 512)
unfolding blank zeros
blank_is_tape = record {
  records = length-replicate 512 zeros;
  bytes = λ k h. ap length (get_or-replicate 512 k zeros [] h) ∙ length-replicate {A = ℕ} 256 0;
}

-- with this script, and an empty shelf
abbrev pub with_script : List ℕ → Outside
with_script script = record { shelf = Some []; tape = None; left = Some script; written = Some []; faults = 0; before = []; after = printer ∷ []; guest = None }

-- what a run that ended with this host leaves, with so much of the script, when it has written that
abbrev pub handed_back : HostState → (left written : List ℕ) → Outside
handed_back finish left written = record {
  shelf = Some ((codes "T", bytes_of (blank 512)) ∷ []);
  tape = finish.tape;
  left = Some left;
  written = Some written;
  faults = finish.faults;
  before = finish.loop.before;
  after = finish.loop.after;
  guest = None;
}

abbrev pub start : HostState
start = host_on (blank 512) 512

-- a stop leaves the blank tape
abbrev pub Stopped : Tape → Type 0
Stopped x = Some (blank 512) ≡ Some x

-- a shelf of one image has no other
alone : (name other bytes : List ℕ) → other ≢ name → image_of other ((name, bytes) ∷ []) ≡ None
alone name other bytes differs = by (bytes_eq name other) refl
  where
    by : (b : Bool) → bytes_eq name other ≡ b → (if b then Some bytes else None) ≡ None
    by true e = absurd (differs (sym ((bytes_eq-Decides name other).0 e)))
    by false e = refl

keeps_shelf : (script left written : List ℕ) (finish : HostState) → finish.tape ≡ Some (blank 512)
    → KeepsShelf order (with_script script) (handed_back finish left written)
keeps_shelf script left written finish stays shelf told = record {
  shelf = (codes "T", bytes_of (blank 512)) ∷ [];
  shelf_is = refl;
  image = λ t same. ap (λ o. Some (bytes_of (unwrap_or o []))) (sym stays ∙ same);
  others = λ name other. alone (codes "T") name (bytes_of (blank 512)) other ∙ ap (λ o. image_of name (unwrap_or o [])) told;
}

-- the words may plan a fault, and ask for the trace
abbrev pub planned : List Planned → Bool → Order
planned plan quiet = record order { plan = plan; quiet = quiet }

-- a run of these events, which leave the tape
runs : (end : RunEnd) (plan : List Planned) (quiet : Bool) (script left written : List ℕ) (finish : HostState) → finish.tape ≡ Some (blank 512)
    → RunSoFar plan None (mode_of (planned plan quiet)) end start finish (Some script) (Some left) (Some []) (Some written)
    → RunsOver end (planned plan quiet) (with_script script) (handed_back finish left written) Stopped
runs end plan quiet script left written finish stays ran = record {
  start = start;
  finish = finish;
  opens = record {
    tape = Some (blank 512);
    inserts = record { reads_as = λ shelf told. (blank 512, refl, ap (λ s. inserted (image_of (codes "T") (unwrap_or s [])) (Some 512)) (sym told)) };
    records = 512;
    size = refl;
    is_tape = λ t same. subst (IsTape 512) (ap (λ o. unwrap_or o []) same) blank_is_tape;
    fresh = refl;
  };
  ran = ran;
  tells = run_tells plan start ran.events finish ran.chain refl (omega arith);
  back = record { tape = refl; faults = refl; before = refl; after = append-nil finish.loop.after; guest = sym (run_tells plan start ran.events finish ran.chain refl (omega arith)).guest; aside = λ off. refl };
  plain = plain_run plan start ran.events finish ran.chain;
  stops = λ told x h. left_before plan start ran.events finish x ran.chain h;
  shelf = keeps_shelf script left written finish stays;
}

-- ---- two lines: the status, and a line that is none

abbrev pub two_lines : List ℕ
two_lines = codes "status" ++ 10 ∷ codes "list"

-- after the status, which is told, or of which the sixth crossing was lost
abbrev pub asked : HostState
asked = asked_on (blank 512) 512

abbrev pub lost : HostState
lost = lost_on (blank 512) 512

abbrev pub told_event : Event
told_event = status_on (blank 512) 512

abbrev pub lost_status : Event
lost_status = loss_on (blank 512) 512

abbrev pub bad_line : HostState → Event
bad_line s = refusal code.BadLine s

told_chain : Chained [] start (told_event ∷ bad_line asked ∷ []) asked
told_chain = (refl, status_step (blank 512) 512, (refl, no_command [] code.BadLine asked refl, refl))

lost_chain : Chained sixth start (lost_status ∷ bad_line lost ∷ []) lost
lost_chain = (refl, lost_step (blank 512) 512, (refl, no_command sixth code.BadLine lost refl, refl))

texts_of_two : (e f : Event) → AreTextsOf (e ∷ f ∷ []) (reply_text_of e ∷ reply_text_of f ∷ [])
texts_of_two e f = (λ told. refl, (λ told. refl, tt))

-- the script of a run, where it is told
of_script : (end : RunEnd) (script : List ℕ) (left : Option (List ℕ)) (items : List Item) → AsksScript end script left items
    → AsksAs None end (Some script) left items
of_script end script left items asks other told = subst (λ s. AsksScript end s left items) (ap (λ o. unwrap_or o []) told) asks

-- ---- all ok: the status, and a comment

abbrev pub with_comment : List ℕ
with_comment = codes "status" ++ 10 ∷ codes "# done"

abbrev pub all_ok_text : List ℕ
all_ok_text = trace_text (log_of status_pieces) ++ lines (codes "status 00" ∷ codes "ok" ∷ [])

all_ok_ran : RunSoFar [] None WithTrace AllOk start asked (Some with_comment) (Some []) (Some []) (Some all_ok_text)
unfolding digits encode_with
all_ok_ran = record {
  events = told_event ∷ [];
  chain = (refl, status_step (blank 512) 512, refl);
  asks = of_script AllOk with_comment (Some []) (Asks Status ∷ []) (refl, refl, omega arith);
  ok = refl;
  texts = reply_text_of told_event ∷ [];
  texts_are = (λ told. refl, tt);
  writes = refl;
}

ends_all_ok : LeavesBy AllOk (Some (planned [] false)) (with_script with_comment) (handed_back asked [] all_ok_text) Stopped
ends_all_ok = runs AllOk [] false with_comment [] all_ok_text asked refl all_ok_ran

-- ---- some reply not ok: a frame of the status was lost, and the second line is no command

abbrev pub not_ok_text : List ℕ
not_ok_text = lines (codes "fault frame" ∷ codes "error 1 BadLine" ∷ [])

not_ok_ran : RunSoFar sixth None Quiet SomeNotOk start lost (Some two_lines) (Some []) (Some []) (Some not_ok_text)
unfolding digits
not_ok_ran = record {
  events = lost_status ∷ bad_line lost ∷ [];
  chain = lost_chain;
  asks = of_script SomeNotOk two_lines (Some []) (Asks Status ∷ NoCommand code.BadLine ∷ []) (refl, refl, omega arith);
  ok = refl;
  texts = reply_text_of lost_status ∷ reply_text_of (bad_line lost) ∷ [];
  texts_are = texts_of_two lost_status (bad_line lost);
  writes = refl;
}

ends_not_ok : LeavesBy SomeNotOk (Some (planned sixth true)) (with_script two_lines) (handed_back lost [] not_ok_text) Stopped
ends_not_ok = runs SomeNotOk sixth true two_lines [] not_ok_text lost refl not_ok_ran

-- ---- the script could not be read within its second line

source_ran : RunSoFar [] None Quiet SourceFailed start asked (Some two_lines) (Some (codes "st")) (Some []) (Some (lines (codes "status 00" ∷ codes "ok" ∷ [])))
unfolding encode_with
source_ran = record {
  events = told_event ∷ [];
  chain = (refl, status_step (blank 512) 512, refl);
  asks = of_script SourceFailed two_lines (Some (codes "st")) (Asks Status ∷ [])
      (record { taken = codes "status" ++ 10 ∷ codes "li"; rest = codes "st"; known = refl; whole = refl; are = refl });
  ok = tt;
  texts = reply_text_of told_event ∷ [];
  texts_are = (λ told. refl, tt);
  writes = refl;
}

ends_source_failed : LeavesBy SourceFailed (Some (planned [] true)) (with_script two_lines) (handed_back asked (codes "st") (lines (codes "status 00" ∷ codes "ok" ∷ []))) Stopped
ends_source_failed = runs SourceFailed [] true two_lines (codes "st") _ asked refl source_ran

-- ---- the output could not be written within the second reply

sink_ran : RunSoFar [] None Quiet SinkFailed start asked (Some two_lines) (Some []) (Some []) (Some (lines (codes "status 00" ∷ codes "ok" ∷ []) ++ codes "error"))
unfolding encode_with digits
sink_ran = record {
  events = told_event ∷ bad_line asked ∷ [];
  chain = told_chain;
  asks = of_script SinkFailed two_lines (Some []) (Asks Status ∷ NoCommand code.BadLine ∷ []) (record { more = []; are = refl });
  ok = tt;
  texts = reply_text_of told_event ∷ reply_text_of (bad_line asked) ∷ [];
  texts_are = texts_of_two told_event (bad_line asked);
  writes = record {
    done = told_event ∷ [];
    last = bad_line asked;
    are = refl;
    said = reply_text_of told_event ∷ [];
    text = reply_text_of (bad_line asked);
    texts_are = refl;
    size = 5;
    front = omega arith;
    written = refl;
  };
}

ends_sink_failed : LeavesBy SinkFailed (Some (planned [] true)) (with_script two_lines) (handed_back asked [] (lines (codes "status 00" ∷ codes "ok" ∷ []) ++ codes "error")) Stopped
ends_sink_failed = runs SinkFailed [] true two_lines [] _ asked refl sink_ran

-- ---- the script is too long: after two lines come as many empty ones as a script has bytes, or more

abbrev pub feeds : ℕ → List ℕ
feeds count = replicate count 10

abbrev pub long_script : ℕ → List ℕ
long_script more = codes "status" ++ 10 ∷ (codes "list" ++ 10 ∷ feeds more)

abbrev pub items_of_whole : List ℕ → List Item
items_of_whole bytes = items_in (map line_told (line_cut bytes).whole)

feeds_ask_nothing : (count : ℕ) → items_of_whole (feeds count) ≡ []
feeds_ask_nothing zero = refl
feeds_ask_nothing (suc count) = feeds_ask_nothing count

first_items : (rest : List ℕ) → items_of_whole (codes "status" ++ 10 ∷ (codes "list" ++ 10 ∷ rest)) ≡ Asks Status ∷ NoCommand code.BadLine ∷ items_of_whole rest
first_items rest = refl

abbrev pub two_items : List Item
two_items = Asks Status ∷ NoCommand code.BadLine ∷ []

asks_too_long : (more : ℕ) → LONGEST_SCRIPT ≤ more → AsksScript ScriptTooLong (long_script more) (Some []) two_items
asks_too_long more long = (
  (let size : length (feeds more) ≡ more = length-replicate {A = ℕ} more 10 in omega (arith, size, long)),
  sym (
      ap (λ rest. items_of_whole (codes "status" ++ 10 ∷ (codes "list" ++ 10 ∷ rest))) (take-replicate (LONGEST_SCRIPT - 12) more 10 (omega (arith, long)))
      ∙ first_items (feeds (LONGEST_SCRIPT - 12))
      ∙ ap (λ items. Asks Status ∷ NoCommand code.BadLine ∷ items) (feeds_ask_nothing (LONGEST_SCRIPT - 12))),
)

too_long_ran : (more : ℕ) → LONGEST_SCRIPT ≤ more → RunSoFar sixth None Quiet ScriptTooLong start lost (Some (long_script more)) (Some []) (Some []) (Some not_ok_text)
unfolding digits
too_long_ran more long = record {
  events = lost_status ∷ bad_line lost ∷ [];
  chain = lost_chain;
  asks = of_script ScriptTooLong (long_script more) (Some []) two_items (asks_too_long more long);
  ok = tt;
  texts = reply_text_of lost_status ∷ reply_text_of (bad_line lost) ∷ [];
  texts_are = texts_of_two lost_status (bad_line lost);
  writes = refl;
}

ends_too_long : (more : ℕ) → LONGEST_SCRIPT ≤ more
    → LeavesBy ScriptTooLong (Some (planned sixth true)) (with_script (long_script more)) (handed_back lost [] not_ok_text) Stopped
ends_too_long more long = runs ScriptTooLong sixth true (long_script more) [] not_ok_text lost refl (too_long_ran more long)

-- ---- endings before the first item

abbrev pub empty_shelf : Outside
empty_shelf = with_script two_lines

untouched : (o : Outside) → IsUntouched o o
untouched o = record { left = refl; written = refl; before = refl; after = refl; guest = refl }

ends_bad_words : LeavesBy BadWords None empty_shelf empty_shelf Stopped
ends_bad_words = (record { untouched = untouched empty_shelf; tape = refl; shelf = refl }, refl)

ends_no_image : LeavesBy NoImage (Some (record order { made = None })) empty_shelf empty_shelf Stopped
ends_no_image = (
  record { untouched = untouched empty_shelf; tape = refl; shelf = refl },
  record { missing = λ shelf told. ap (λ o. image_of (codes "T") (unwrap_or o [])) (sym told); kept = refl },
)

-- an image of so many bytes
abbrev pub with_zeros : ℕ → Outside
with_zeros size = record empty_shelf { shelf = Some ((codes "T", replicate size 0) ∷ []) }

ends_too_large : (size : ℕ) → largest_image < size → LeavesBy ImageTooLarge (Some order) (with_zeros size) (with_zeros size) Stopped
ends_too_large size large = (
  record { untouched = untouched (with_zeros size); tape = refl; shelf = refl },
  record {
    found = λ shelf told. (
      replicate size 0,
      ap (λ o. image_of (codes "T") (unwrap_or o [])) (sym told),
      subst (λ n. largest_image < n) (sym (length-replicate {A = ℕ} size 0)) large,
    );
  },
)

ends_insert_failed : LeavesBy InsertFailed (Some order) empty_shelf (record empty_shelf { faults = 1 }) Stopped
ends_insert_failed = record { untouched = record { left = refl; written = refl; before = refl; after = refl; guest = refl }; tape = refl; shelf = refl }

-- no memory for the words; or for the host, and then the image is in the drive
ends_out_of_memory : LeavesBy OutOfMemory None empty_shelf empty_shelf Stopped
ends_out_of_memory = inl (record { untouched = untouched empty_shelf; tape = refl; shelf = refl }, refl)

abbrev pub unopened : Outside
unopened = handed_back start two_lines []

ends_unopened : LeavesBy OutOfMemory (Some order) empty_shelf unopened Stopped
ends_unopened = inr (record {
  untouched = record { left = refl; written = refl; before = refl; after = refl; guest = refl };
  inserts = record { reads_as = λ shelf told. (blank 512, refl, ap (λ s. inserted (image_of (codes "T") (unwrap_or s [])) (Some 512)) (sym told)) };
  shelf = keeps_shelf two_lines two_lines [] start refl;
  stops = λ told x left. left;
})

-- ---- what no ending leaves

abbrev pub first_frames : List DeviceState → ℕ
first_frames devices = get_or (map (λ d. d.frames) devices) 0 0

none_answered : (plan : List Planned) (events : List Event) (s f : HostState) → items_asked events ≡ [] → Chained plan s events f → f ≡ s
none_answered plan [] s f none chain = chain
none_answered plan (e ∷ events) s f none chain = absurd (one_is_none (ap length none))
  where
    one_is_none : length (items_asked (e ∷ events)) ≡ 0 → ⊥
    one_is_none h = absurd (omega (arith, h))

none_written : (mode : OutputMode) (events : List Event) (texts : List (List ℕ)) → items_asked events ≡ [] → AreTextsOf events texts → event_texts mode events texts ≡ []
none_written mode [] [] none are = refl
none_written mode [] (text ∷ texts) none are = absurd are
none_written mode (e ∷ events) texts none are = let some : suc (length (items_asked events)) ≡ 0 = ap length none in absurd (omega (arith, some))

-- over an empty script
abbrev pub over_nothing : (end : RunEnd) → Outside → Type 0
over_nothing end now = LeavesBy end (Some (planned [] true)) (with_script []) now Stopped

abbrev pub nothing_done : Outside
nothing_done = handed_back start [] []

-- an output, though there was no item
an_output : over_nothing AllOk (record nothing_done { written = Some (codes "ok") }) → ⊥
an_output run =
    let none = run.ran.asks [] refl in
    let written : codes "ok" ≡ output Quiet run.ran.events run.ran.texts = run.ran.writes in
    texts_differ _ _ refl (written ∙ ap (λ text. text ++ []) (none_written Quiet run.ran.events run.ran.texts none.0 run.ran.texts_are))

-- a frame that came to the printer
frames_for_nothing : over_nothing AllOk (record nothing_done { after = record printer { frames = 1 } ∷ [] }) → ⊥
unfolding first_frames
frames_for_nothing run =
    let same = none_answered [] run.ran.events run.start run.finish (run.ran.asks [] refl).0 run.ran.chain in
    numbers_differ 1 0 refl (ap first_frames (run.back.after ∙ ap (λ s. s.loop.after) (same ∙ run.opens.fresh)))

-- an ending by some reply, a sink that failed, or a script that is too long
some_reply : over_nothing SomeNotOk nothing_done → ⊥
some_reply run = by run.ran.events (run.ran.asks [] refl).0 run.ran.ok
  where
    by : (events : List Event) → items_asked events ≡ [] → IsOkAs SomeNotOk events → ⊥
    by [] none ok = false_is_not_true (sym ok)
    by (e ∷ events) none ok = let some : suc (length (items_asked events)) ≡ 0 = ap length none in absurd (omega (arith, some))

a_long_script : over_nothing ScriptTooLong nothing_done → ⊥
a_long_script run = let long = (run.ran.asks [] refl).0 in absurd (omega (arith, long))

a_failed_sink : over_nothing SinkFailed nothing_done → ⊥
a_failed_sink run =
    let asks = run.ran.asks [] refl in
    by run.ran.events asks.more run.ran.writes.done run.ran.writes.last asks.are run.ran.writes.are
  where
    by : (events : List Event) (more : List Item) (done : List Event) (last : Event) → [] ≡ items_asked events ++ more → events ≡ done ++ last ∷ [] → ⊥
    by [] more done last none are =
        let some : 0 ≡ length done + 1 = ap length are ∙ length-append done (last ∷ []) in
        absurd (omega (arith, some))
    by (e ∷ events) more done last none are = let some : 0 ≡ suc (length (items_asked events ++ more)) = ap length none in absurd (omega (arith, some))

-- a script that is read to its end and was not, and one of which more is left than there was
not_taken : LeavesBy AllOk (Some (planned [] true)) (with_script with_comment) (handed_back asked (codes "done") all_ok_text) Stopped → ⊥
not_taken run = numbers_differ 4 0 refl (ap length (run.ran.asks with_comment refl).1)

more_than_there_was : over_nothing SourceFailed (record nothing_done { left = Some (codes "x") }) → ⊥
more_than_there_was run =
    let asks = run.ran.asks [] refl in
    let rest : length (codes "x") ≡ length asks.rest = ap (λ o. length (unwrap_or o [])) asks.known in
    let whole : 0 ≡ length (asks.taken ++ asks.rest) = ap length asks.whole in
    let sum : length (asks.taken ++ asks.rest) ≡ length asks.taken + length asks.rest = length-append asks.taken asks.rest in
    absurd (omega (arith, rest, whole, sum))

-- another image is gone, or the image has other bytes than the tape
abbrev pub with_other : Outside
with_other = record (with_script []) { shelf = Some ((codes "U", []) ∷ []) }

other_image_gone : LeavesBy AllOk (Some (planned [] true)) with_other nothing_done Stopped → ⊥
unfolding blank
other_image_gone run =
    let kept = run.shelf _ refl in
    let there : image_of (codes "U") kept.shelf ≡ Some [] = kept.others (codes "U") (texts_differ (codes "U") (codes "T") refl) in
    false_is_not_true (ap (λ o. is_some (image_of (codes "U") (unwrap_or o []))) (kept.shelf_is) ∙ ap is_some there)

abbrev pub with_bytes : List ℕ → Outside
with_bytes bytes = record nothing_done { shelf = Some ((codes "T", bytes) ∷ []) }

other_bytes : over_nothing AllOk (with_bytes []) → ⊥
unfolding blank
other_bytes run =
    let kept = run.shelf _ refl in
    let is : Some [] ≡ Some (bytes_of (blank 512)) = ap (λ o. image_of (codes "T") (unwrap_or o [])) kept.shelf_is ∙ kept.image (blank 512) refl in
    numbers_differ 1 0 refl (ap (λ o. get_or (unwrap_or o []) 0 1) is)

-- an early ending with a tape in the drive, an output, or a script that was read
words_with_a_tape : LeavesBy BadWords None empty_shelf (record empty_shelf { tape = Some (blank 512) }) Stopped → ⊥
words_with_a_tape leaves = false_is_not_true (sym (ap is_some leaves.0.tape))

too_large_with_an_output : LeavesBy ImageTooLarge (Some order) (with_zeros 0) (record (with_zeros 0) { written = Some (codes "x") }) Stopped → ⊥
too_large_with_an_output leaves = numbers_differ 1 0 refl (ap (λ o. length (unwrap_or o [])) leaves.0.untouched.written)

insert_with_a_shelf : LeavesBy InsertFailed (Some order) empty_shelf unopened Stopped → ⊥
insert_with_a_shelf leaves = false_is_not_true (sym (ap is_some leaves.tape))

memory_with_a_script_read : LeavesBy OutOfMemory (Some order) empty_shelf (record unopened { left = Some [] }) Stopped → ⊥
memory_with_a_script_read leaves = elim leaves [
  | inl early ↦ numbers_differ 0 11 refl (ap (λ o. length (unwrap_or o [])) early.0.untouched.left)
  | inr late ↦ numbers_differ 0 11 refl (ap (λ o. length (unwrap_or o [])) late.untouched.left)
]

-- an image that is on the shelf is not missing
abbrev pub with_image : Outside
with_image = record empty_shelf { shelf = Some ((codes "T", []) ∷ []) }

not_missing : LeavesBy NoImage (Some (record order { made = None })) with_image with_image Stopped → ⊥
not_missing leaves = false_is_not_true (sym (ap is_some (leaves.1.missing _ refl)))

-- nor is one missing that is to be made
to_be_made : LeavesBy NoImage (Some order) empty_shelf empty_shelf Stopped → ⊥
to_be_made leaves = false_is_not_true (sym (ap is_some leaves.1.kept))
