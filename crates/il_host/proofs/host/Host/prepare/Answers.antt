use Rattle.std.proofs.Common.{◌≡◌, ◌∙◌, false, true, inr, refl, sym}
use Rattle.il_host.proofs.host.Host.prepare.Goals as goal

-- the directory is kept
pub returns-then-is_kept-clause-prepares : goal.returns-then-is_kept-clause-prepares
returns-then-is_kept-clause-prepares g c = inr (
  c.make_sound.new.self.volume,
  record {
    makes = c.in_ok-make_sound.ensures.makes;
    sounds = c.in_ok-make_sound.ensures.sounds;
    opens = c.make_sound.ensures.opens;
    kept = c.make_sound.ensures.kept;
    still = λ on. (refl, refl);
    finishes = λ off. let clash : false ≡ true = sym off ∙ sym c.is_kept.ensures ∙ c.if-is_kept.true in cc;
  },
)

-- a packing is finished
pub returns-clause-prepares : goal.returns-clause-prepares
returns-clause-prepares g c = inr (
  c.make_sound.new.self.volume,
  record {
    makes = c.in_ok-make_sound.ensures.makes;
    sounds = c.in_ok-make_sound.ensures.sounds;
    opens = c.make_sound.ensures.opens;
    kept = c.make_sound.ensures.kept;
    still = λ on. let clash : false ≡ true = sym c.if-is_kept.false ∙ c.is_kept.ensures ∙ on in cc;
    finishes = λ off. record {
      goes_on = c.finish.ensures.goes_on;
      finished = c.finish.ensures.finished;
      shown = c.finish.ensures.shown;
      foreign = c.finish.ensures.foreign;
      mounts = c.finish.ensures.mounts;
      writes = c.finish.ensures.writes;
      forgets = c.finish.ensures.forgets;
    };
  },
)
