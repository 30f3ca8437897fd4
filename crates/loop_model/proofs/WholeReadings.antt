-- A log that reads as whole exchanges reads as no others, so its units are those of the list of its transfers.
use Rattle.std.proofs.Common.{◌≡◌, ◌∙◌, ◌&&◌, ℕ, true, false, List, [], ◌∷◌, map, refl, sym, ap}
use Rattle.std.specs.Prelude.{flat_map}
use Rattle.std.specs.List.{list_all}
use Rattle.std.proofs.lemmas.Bool.{and_parts}
use Rattle.std.proofs.lemmas.List.Folds.{list_all-append}
use Rattle.il_frames.specs.declared.entry.Entry.{Entry}
use Rattle.lif_model.specs.Transfers.{Transfer, are_carried_out, are_carried_in, carries}
use Rattle.loop_model.specs.Effect.{is_out, is_in, transfer_of, all_good, Transferred}
use Rattle.loop_model.proofs.EffectLaws.{carries-out, carries-in}
use Rattle.loop_model.specs.Exchanges.{Piece, Whole, Cut, Reading, IsWhole, are_whole, can_cut, cut_at, entries_of, is_exchange, is_piece, piece_entries}
use Rattle.loop_model.proofs.ExchangeLaws.{stands, cut_falls, whole_stands}
use Rattle.loop_model.proofs.ReadingLaws.{units_of-whole}
use Rattle.loop_model.specs.Loops.{Loop, host_loop}
use Rattle.loop_model.specs.Units.{units_of}

module _ (l : Loop) where
  -- exchanges whose entries all stand are whole
  standing_whole : (ps : List Piece) → list_all (is_piece l) ps ≡ true → list_all stands (flat_map (piece_entries l.controller) ps) ≡ true → are_whole ps ≡ true
  standing_whole [] legal stand = refl
  standing_whole (Whole x ∷ ps) legal stand =
      let parts = and_parts (is_exchange l x) (list_all (is_piece l) ps) legal in
      let both = and_parts (list_all stands (entries_of l.controller x)) (list_all stands (flat_map (piece_entries l.controller) ps)) (sym (list_all-append stands (entries_of l.controller x) (flat_map (piece_entries l.controller) ps)) ∙ stand) in
      standing_whole ps parts.1 both.1
  standing_whole (Cut x n b ∷ ps) legal stand =
      let parts = and_parts (is_exchange l x && can_cut l.controller (entries_of l.controller x) n b) (list_all (is_piece l) ps) legal in
      let both = and_parts (list_all stands (cut_at (entries_of l.controller x) n b)) (list_all stands (flat_map (piece_entries l.controller) ps)) (sym (list_all-append stands (cut_at (entries_of l.controller x) n b) (flat_map (piece_entries l.controller) ps)) ∙ stand) in
      let falls = cut_falls l (entries_of l.controller x) n b (and_parts (is_exchange l x) _ parts.0).1 in
      let clash : true ≡ false = sym both.0 ∙ falls in
      cc

  -- every reading of a whole log is whole
  pub only_whole : (log : List Entry) → IsWhole l log → (reading : Reading l log) → are_whole reading.pieces ≡ true
  only_whole log a reading =
      standing_whole reading.pieces reading.legal (ap (list_all stands) (sym reading.entries ∙ a.reading.entries) ∙ whole_stands l a.reading.pieces a.reading.legal a.whole)

-- the units of a whole log make the transfers that are told of it
pub same_transfers : (k d : ℕ) (log : List Entry) (list : List Transfer) → (a : IsWhole (host_loop k d) log) → Transferred (host_loop k d) log list
    → map transfer_of (units_of (host_loop k d) a.reading.pieces) ≡ list
same_transfers k d log list a told =
    let other : IsWhole (host_loop k d) log = record { reading = told.reading; whole = only_whole (host_loop k d) log a told.reading } in
    ap (map transfer_of) (units_of-whole k d log a other) ∙ told.are

-- they carry what these transfers carry, out and in
pub carries_out_whole : (k d : ℕ) (log : List Entry) (list : List Transfer) (n : ℕ) (bytes : List ℕ) → (a : IsWhole (host_loop k d) log) → all_good (units_of (host_loop k d) a.reading.pieces) ≡ true
    → Transferred (host_loop k d) log list → are_carried_out list n bytes ≡ true → carries transfer_of is_out (units_of (host_loop k d) a.reading.pieces) n bytes ≡ true
carries_out_whole k d log list n bytes a good told carried =
    carries-out (units_of (host_loop k d) a.reading.pieces) n bytes good ∙ ap (λ list. are_carried_out list n bytes) (same_transfers k d log list a told) ∙ carried

-- and in from them
pub carries_in_whole : (k d : ℕ) (log : List Entry) (list : List Transfer) (n : ℕ) (bytes : List ℕ) → (a : IsWhole (host_loop k d) log) → all_good (units_of (host_loop k d) a.reading.pieces) ≡ true
    → Transferred (host_loop k d) log list → are_carried_in list n bytes ≡ true → carries transfer_of is_in (units_of (host_loop k d) a.reading.pieces) n bytes ≡ true
carries_in_whole k d log list n bytes a good told carried =
    carries-in (units_of (host_loop k d) a.reading.pieces) n bytes good ∙ ap (λ list. are_carried_in list n bytes) (same_transfers k d log list a told) ∙ carried
