-- What exchanges made, one call after the other, and exchanges of which none begins a unit of records.
use Rattle.std.proofs.Common.{◌≡◌, ◌∙◌, ◌++◌, ◌&&◌, ◌||◌, ℕ, Bool, true, false, List, [], ◌∷◌, Option, Some, None, refl, sym, ap, ap₂, subst}
use Rattle.std.specs.Prelude.{is_some, option_and_then, option_to_list}
use Rattle.il_ports.specs.Media.{MediumView}
use Rattle.il_drive.specs.State.{DriveView}
use Rattle.loop_model.specs.Effect.{UnitsEffect}
use Rattle.loop_model.specs.Exchanges.{Exchange, Receive, Sst, Stopped, Piece, Whole as WholeOne, Cut}
use Rattle.loop_model.specs.Roles.{is_at_most_one}
use Rattle.loop_model.specs.Units.{RecordUnit, units_of, ends_within, is_open, sought as named_by, unit_after_seek}
use Rattle.loop_model.proofs.EffectLaws.{ends_within-append, ends_within-broken, units_of-append, UnitsEffect-append}
use Rattle.il_ring.specs.Rings.{RingView}
use Rattle.il_control.specs.Calls.{IsIdle, Made, BrokenOff, loop_of}
use Rattle.il_control.proofs.Calls.{whole_nothing}
use Rattle.il_record.specs.Came.{CameUnits}
use Rattle.il_record.specs.Runs.{Polled, NotPolled}
use Rattle.il_record.specs.Talks.{Talked}
use Rattle.il_record.proofs.ReadRuns.{came_still}
use Rattle.il_record.proofs.Talks.{made_talked, broken_talked, talked_then, same_loop}

-- ---- none begins a unit

pub none_within : (o : Option ℕ) (b : Bool) → o ≡ None → ((is_some o && b) || false) ≡ false
none_within None b is = refl
none_within (Some k) b is = cc

pub no_unit : (o : Option ℕ) (unit : ℕ → Option RecordUnit) → o ≡ None → option_to_list (option_and_then unit o) ++ [] ≡ []
no_unit None unit is = refl
no_unit (Some k) unit is = cc

pub tape_same : {M : Type 0} (view : M → MediumView) (v w : DriveView M) → w.medium ≡ v.medium → (view w.medium).tape ≡ (view v.medium).tape
tape_same view v w same = ap (λ m. (view m).tape) same

module _ {M : Type 0} (view : M → MediumView) where
  -- one exchange that names no record
  abbrev pub made_came : (x : Exchange) (r s : RingView M) → Made view x r s → named_by (loop_of r) (WholeOne x) ≡ None → (view s.drive.medium).tape ≡ (view r.drive.medium).tape → CameUnits view true [] r s
  made_came x r s made none same =
      let l = loop_of r in
      came_still view true (WholeOne x ∷ []) [] r s (made_talked view x r s made) (none_within (named_by l (WholeOne x)) (is_open l []) none) (no_unit (named_by l (WholeOne x)) (unit_after_seek l []) none) (λ t. refl) same

  -- one that broke off
  abbrev pub broken_came : (x : Exchange) (r s : RingView M) → BrokenOff view x r s → (view s.drive.medium).tape ≡ (view r.drive.medium).tape → CameUnits view false [] r s
  broken_came x r s broken same =
      let cut : List Piece = Cut x broken.broke.standing broken.broke.break ∷ [] in
      let talked = broken_talked view x r s broken in
      came_still view false cut [] r s talked (ends_within-broken (loop_of r) cut talked.ends) refl (λ t. refl) same

  -- nothing
  abbrev pub nothing_came : (r : RingView M) → IsIdle r → CameUnits view true [] r r
  nothing_came r idle =
      let whole = whole_nothing view r idle.free in
      let talked : Talked view true [] r r = record {
        legal = refl;
        ends = refl;
        adds = whole.adds;
        met = whole.met_none;
        one = subst (λ ts. is_at_most_one ts ≡ true) (sym idle.silent) refl;
        state = idle;
      } in
      came_still view true [] [] r r talked refl refl (λ t. refl) refl

  -- one call after the other
  abbrev pub came_then : (whole : Bool) (us ws : List RecordUnit) (r m s : RingView M) → IsIdle r → CameUnits view true us r m → CameUnits view whole ws m s → CameUnits view whole (us ++ ws) r s
  came_then whole us ws r m s idle first more =
      let ps = first.came.pieces in
      let qs = more.came.pieces in
      let loops : loop_of m ≡ loop_of r = same_loop view r m _ _ _ first.came.talked.adds in
      let outside : ends_within (loop_of r) qs ≡ false = ap (λ l. ends_within l qs) (sym loops) ∙ more.came.outside in
      let behind : units_of (loop_of r) qs ≡ units_of (loop_of m) qs = ap (λ l. units_of l qs) (sym loops) in
      let both = units_of-append (loop_of r) ps qs first.came.outside in
      record {
        came = record {
          pieces = ps ++ qs;
          talked = talked_then view whole ps qs r m s idle.free first.came.talked more.came.talked;
          outside = ends_within-append (loop_of r) ps qs first.came.outside outside;
          effect = λ t told.
              let u = first.came.effect t told in
              let w = more.came.effect u.0 u.1 in
              (w.0, w.1, subst (λ vs. UnitsEffect vs t w.0) (sym both) ((UnitsEffect-append (units_of (loop_of r) ps) (units_of (loop_of r) qs) t w.0).1 (u.0, u.2, subst (λ vs. UnitsEffect vs u.0 w.0) (sym behind) w.2)));
        };
        are = both ∙ ap₂ (λ us ws. us ++ ws) first.are (behind ∙ more.are);
      }

-- ---- a poll of the status

module _ {M : Type 0} (view : M → MediumView) (d : ℕ) (r s : RingView M) where
  pub polled_came : (byte : ℕ) → Polled view d byte r s → CameUnits view true [] r s
  polled_came byte told = made_came view (Receive d None Sst (Stopped d [] told.echo)) r s told.made refl (tape_same view r.drive s.drive told.drive.medium)

  pub not_polled_came : NotPolled view d r s → CameUnits view false [] r s
  not_polled_came not = broken_came view (Receive d None Sst not.answer) r s not.broken not.drive.still.tape
