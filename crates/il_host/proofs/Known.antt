-- Known bytes that grow, and writes that may have stopped in between.
use Rattle.std.proofs.Common.{◌≡◌, ◌<◌, ℕ, ◌+◌, List, [], ◌∷◌, ◌++◌, Option, Some, None, length, take, drop, get_or, sym, ap, subst, ◌∙◌, arith, append_assoc, append-nil, length-append}
use Rattle.std.proofs.Math.Seq.{take-append-add}
use Rattle.std.proofs.lemmas.List.{take-append-le, take-append-drop, take_more}
use Rattle.std.proofs.lemmas.Grind.{flat_map-append}
use Rattle.std.specs.Prelude.{Result, Ok, Err, IsErr}
use Rattle.std.specs.Io.KnownBytes.{Appends}
use Rattle.il_frames.specs.declared.entry.Entry.{Entry}
use Rattle.il_frames.specs.Entries.{entry_text}
use Rattle.il_script.specs.Replies.{text_line}
use Rattle.host_model.specs.Replies.{trace_text}
use Rattle.il_ports.specs.Writing.{WritesFront, WritesAll}
use Rattle.il_ports.proofs.Writing.{appends-trans}
use Rattle.il_host.specs.Writing.{Waits}

pub appends-none : (a : Option (List ℕ)) → Appends a a []
appends-none None = tt
appends-none (Some a) = sym (append-nil a)

-- an error is answered
pub stopped_as : {E : Type 0} (a b : Option (List ℕ)) (text : List ℕ) (answer : Result (Unit {0}) E) → IsErr answer → WritesFront a b text → WritesAll a b text answer
stopped_as a b text (Ok u) err h = cc
stopped_as a b text (Err e) err h = h

-- it stopped within the first part of a text
pub stopped_within : (a b : Option (List ℕ)) (text xs ys : List ℕ) → text ≡ xs ++ ys → WritesFront a b xs → WritesFront a b text
stopped_within a b text xs ys is h = (
  h.0,
  omega (arith, h.1, ap length is, length-append xs ys),
  subst (λ l. Appends a b l) (sym (ap (take h.0) is ∙ take-append-le h.0 xs ys h.1)) h.2,
)

-- it stopped after the first part
pub stopped_behind : (a b c : Option (List ℕ)) (text xs ys : List ℕ) → text ≡ xs ++ ys → Appends a b xs → WritesFront b c ys → WritesFront a c text
stopped_behind a b c text xs ys is h k = (
  length xs + k.0,
  omega (arith, k.1, ap length is, length-append xs ys),
  subst (λ l. Appends a c l) (sym (ap (take (length xs + k.0)) is ∙ take-append-add xs ys k.0)) (appends-trans a b c xs (take k.0 ys) h k.2),
)

-- a write after the first part of a text
pub written_on : {E : Type 0} (a b c : Option (List ℕ)) (text xs ys : List ℕ) (r : Result (Unit {0}) E) → text ≡ xs ++ ys → Appends a b xs → WritesAll b c ys r → WritesAll a c text r
written_on a b c text xs ys (Ok u) is h k = subst (λ l. Appends a c l) (sym is) (appends-trans a b c xs ys h k)
written_on a b c text xs ys (Err e) is h k = stopped_behind a b c text xs ys is h k

-- ---- a text of which the last bytes wait

pub waits_then : (a b c : Option (List ℕ)) (text xs ys : List ℕ) → Waits a b text xs → Waits b c xs ys → Waits a c text ys
waits_then a b c text xs ys h k = record {
  written = h.written ++ k.written;
  appended = appends-trans a b c h.written k.written h.appended k.appended;
  whole = h.whole ∙ ap (λ l. h.written ++ l) k.whole ∙ sym (append_assoc h.written k.written ys);
}

pub waits_more : (a b : Option (List ℕ)) (text xs ys : List ℕ) → Waits a b text xs → Waits a b (text ++ ys) (xs ++ ys)
waits_more a b text xs ys h = record {
  written = h.written;
  appended = h.appended;
  whole = ap (λ l. l ++ ys) h.whole ∙ append_assoc h.written xs ys;
}

pub waits_stopped : (a b c : Option (List ℕ)) (text xs : List ℕ) → Waits a b text xs → WritesFront b c xs → WritesFront a c text
waits_stopped a b c text xs h k = stopped_behind a b c text h.written xs h.whole h.appended k

pub waits_written : {E : Type 0} (a b c : Option (List ℕ)) (text xs : List ℕ) (r : Result (Unit {0}) E) → Waits a b text xs → WritesAll b c xs r → WritesAll a c text r
waits_written a b c text xs r h k = written_on a b c text h.written xs r h.whole h.appended k

-- ---- logs

-- the text of a log, in two
pub trace-split : (log : List Entry) (i : ℕ) → trace_text log ≡ trace_text (take i log) ++ trace_text (drop i log)
trace-split log i =
    ap trace_text (sym (take-append-drop i log)) ∙ flat_map-append (λ (e : Entry). text_line (entry_text e)) (take i log) (drop i log)

-- and with one entry more
pub trace-more : (log : List Entry) (i : ℕ) (d : Entry) → i < length log → trace_text (take (i + 1) log) ≡ trace_text (take i log) ++ text_line (entry_text (get_or log i d))
trace-more log i d within =
    ap trace_text (take_more log i d within) ∙ flat_map-append (λ (e : Entry). text_line (entry_text e)) (take i log) (get_or log i d ∷ [])
    ∙ ap (λ l. trace_text (take i log) ++ l) (append-nil (text_line (entry_text (get_or log i d))))
