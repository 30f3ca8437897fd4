-- Each place can be left by a loss, and leads so to a list of whole and broken exchanges.
use Rattle.std.proofs.Common.{◌≡◌, ◌↔◌, ◌∙◌, ◌++◌, ℕ, Bool, true, List, [], ◌∷◌, Option, Some, None, refl, sym, ap, append-nil, subst}
use Rattle.il_frames.specs.declared.frame.Class.TheVariants as class
use Rattle.il_frames.specs.declared.entry.Entry.{Entry}
use Rattle.il_frames.specs.declared.entry.Outcome.TheVariants as outcome
use Rattle.il_frames.specs.Frames.{framed}
use Rattle.il_device.specs.Takes.{eto, ete}
use Rattle.loop_model.specs.Loops.{host_loop}
use Rattle.il_frames.specs.NamedFrames.{entry, ready, unt, rfc, nrd, aad}
use Rattle.loop_model.specs.Exchanges.{Reading}
use Rattle.trace_readers.specs.declared.exchanges.Tail.{Tail}
use Rattle.trace_readers.specs.declared.exchanges.Tail.TheVariants as tail
use Rattle.trace_readers.specs.declared.exchanges.Place.{Place}
use Rattle.trace_readers.specs.declared.exchanges.Place.TheVariants as place
use Rattle.trace_readers.specs.Places.{plain, step, step_from, place_after, is_open, is_finished}
use Rattle.trace_readers.specs.Exchanges.{IsPrefix, Reader, IsReadAfter}
use Rattle.trace_readers.proofs.PassLemmas.{place_after-append, same_self, reading_place, no_prefix}
use Rattle.trace_readers.proofs.ReadLemmas.{place_reading}

-- a frame that is due at a place, lost
loss : Place → Entry
loss (place.Between t) = entry 0 (aad 1) (outcome.Lost 0)
loss (place.Commanded t) = entry 0 rfc (outcome.Lost 0)
loss place.Addressed = entry 0 rfc (outcome.Lost 0)
loss place.Told = entry 0 (ready 0x60) (outcome.Lost 0)
loss place.Numbered = entry 0 rfc (outcome.Lost 0)
loss place.Starting = entry 0 (ready 0x60) (outcome.Lost 0)
loss (place.Talking p say) = entry 0 nrd (outcome.Lost 0)
loss (place.Stopping p) = entry p (framed class.Dab 0) (outcome.Lost 0)
loss (place.Stopped p) = entry p eto (outcome.Lost 0)
loss (place.Failed p) = entry p ete (outcome.Lost 0)
loss place.Answered = entry 0 unt (outcome.Lost 0)

loss_breaks : (k : ℕ) (s : Place) → step k s (loss s) ≡ Some plain
unfolding loss
loss_breaks k (place.Between t) = refl
loss_breaks k (place.Commanded t) = refl
loss_breaks k place.Addressed = refl
loss_breaks k place.Told = refl
loss_breaks k place.Numbered = refl
loss_breaks k place.Starting = refl
loss_breaks k (place.Talking p say) = refl
loss_breaks k (place.Stopping p) = rw (same_self p) refl
loss_breaks k (place.Stopped p) = rw (same_self p) refl
loss_breaks k (place.Failed p) = rw (same_self p) refl
loss_breaks k place.Answered = refl

some_goes_on : (k d : ℕ) (log : List Entry) (s : Place) → place_after k (Some plain) log ≡ Some s →
    IsPrefix (host_loop k d) log
some_goes_on k d log s stands = (
  loss s ∷ [],
  place_reading k d (log ++ loss s ∷ []) tail.Plain
      (place_after-append k (Some plain) log (loss s ∷ [])
      ∙ ap (λ (at : Option Place). step_from k at (loss s)) stands ∙ loss_breaks k s),
)

-- there is a place exactly where the log can go on
pub open_prefix : (k d : ℕ) (log : List Entry) (o : Option Place) → place_after k (Some plain) log ≡ o →
    (is_open o ≡ true) ↔ IsPrefix (host_loop k d) log
open_prefix k d log None stopped = (λ e. cc, λ p. absurd (no_prefix k d log p.0 stopped p.1))
open_prefix k d log (Some s) stands = (λ e. some_goes_on k d log s stands, λ p. refl)

finished_some : (s : Place) (u : Tail) → Some s ≡ Some (place.Between u) → is_finished (Some s) ≡ true
finished_some s u e = ap is_finished e

between : (s : Place) → is_finished (Some s) ≡ true → (u : Tail) × (s ≡ place.Between u)
between (place.Between t) e = (t, refl)
between s e = cc

-- and it is between two exchanges exactly where the log is a list of them
pub finished_reading : (k d : ℕ) (log : List Entry) (o : Option Place) → place_after k (Some plain) log ≡ o →
    (is_finished o ≡ true) ↔ Reading (host_loop k d) log
finished_reading k d log None stopped = (
  λ e. cc,
  λ r. absurd (no_prefix k d log [] stopped (subst (λ (es : List Entry). Reading (host_loop k d) es)
      (sym (append-nil log)) r)),
)
finished_reading k d log (Some s) stands = (
  λ e. let at = between s e in place_reading k d log at.0 (stands ∙ ap Some at.1),
  λ r. let read = reading_place k d log r in finished_some s read.0 (sym stands ∙ read.1),
)

-- ---- readers

pub read_more : (k : ℕ) (log : List Entry) (e : Entry) (before after : Reader) → IsReadAfter k log before →
    after.devices ≡ before.devices → after.place ≡ step_from before.devices before.place e →
    IsReadAfter k (log ++ e ∷ []) after
read_more k log e before after known devices stepped = record {
  devices = devices ∙ known.devices;
  place =
      stepped
      ∙ ap (λ (n : ℕ). step_from n before.place e) known.devices
      ∙ ap (λ (at : Option Place). step_from k at e) known.place
      ∙ sym (place_after-append k (Some plain) log (e ∷ []));
}

pub read_open : (k d : ℕ) (log : List Entry) (r : Reader) (b : Bool) → IsReadAfter k log r → b ≡ is_open r.place →
    (b ≡ true) ↔ IsPrefix (host_loop k d) log
read_open k d log r b known is =
    subst (λ (c : Bool). (c ≡ true) ↔ IsPrefix (host_loop k d) log) (sym is) (open_prefix k d log r.place
    (sym known.place))

pub read_finished : (k d : ℕ) (log : List Entry) (r : Reader) (b : Bool) → IsReadAfter k log r →
    b ≡ is_finished r.place →
    (b ≡ true) ↔ Reading (host_loop k d) log
read_finished k d log r b known is =
    subst (λ (c : Bool). (c ≡ true) ↔ Reading (host_loop k d) log) (sym is) (finished_reading k d log r.place
    (sym known.place))
