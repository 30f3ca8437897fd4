-- Which logs can go on to a list of whole and broken exchanges of the host.
use Rattle.std.specs.Prelude.{◌≡◌, ℕ, List, ◌++◌, Option, Some}
use Rattle.il_frames.specs.declared.entry.Entry.{Entry}
use Rattle.loop_model.specs.Loops.{Loop}
use Rattle.loop_model.specs.Exchanges.{Reading}
use Rattle.trace_readers.specs.declared.exchanges.Place.{Place}
use Rattle.trace_readers.specs.Places.{plain, place_after}

-- the log can go on so that the whole is a list of whole and broken exchanges
abbrev pub IsPrefix : Loop → List Entry → Type 0
IsPrefix l log = (rest : List Entry) × Reading l (log ++ rest)

-- a ring of so many devices, and the place at which the entries so far stand, if there is one
pub record Reader : Type 0 where
  pub devices : ℕ
  pub place : Option Place

-- the reader has read this log on a ring of k devices
pub record IsReadAfter (k : ℕ) (log : List Entry) (r : Reader) : Type 0 where
  pub devices : r.devices ≡ k
  pub place : r.place ≡ place_after k (Some plain) log
