-- Exchanges one after the other.
use Rattle.std.specs.Prelude.{◌≡◌, ◌≢◌, Bool, true, MatchBool, List, [], flat_map, None}
use Rattle.std.specs.List.{list_all}
use Rattle.il_frames.specs.declared.entry.Entry.{Entry}
use Rattle.il_ports.specs.Media.{MediumView}
use Rattle.loop_model.specs.Effect.{ends_as}
use Rattle.loop_model.specs.Exchanges.{Piece, is_piece, piece_entries}
use Rattle.loop_model.specs.Reach.{held_at_end}
use Rattle.loop_model.specs.Roles.{OneTalker}
use Rattle.il_ring.specs.Rings.{RingView, devices_of, roles_of}
use Rattle.il_ring.specs.Outcomes.{met_between}
use Rattle.il_ring.specs.Adds.{Adds}
use Rattle.il_control.specs.Calls.{IsIdle, IsLost, loop_of}

-- the entries of whole and broken exchanges
abbrev pub all_entries : List Piece → List Entry
all_entries ps = flat_map (piece_entries 0) ps

-- The ring r became s by these exchanges, all whole, or the last of them broken off: exactly where a planned hop was met. At most one
-- party talked at every moment.
pub record Talked {M : Type 0} (view : M → MediumView) (whole : Bool) (ps : List Piece) (r s : RingView M) : Type 0 where
  pub legal : list_all (is_piece (loop_of r)) ps ≡ true
  pub ends : ends_as whole ps ≡ true
  pub adds : Adds view r None (all_entries ps) (held_at_end None (all_entries ps)) s
  pub met : MatchBool whole (met_between r s ≡ []) (met_between r s ≢ [])
  pub one : OneTalker (roles_of (devices_of r)) (all_entries ps)
  pub state : MatchBool whole (IsIdle s) (IsLost s)
