use Rattle.std.proofs.Common.{inl, inr}
use Rattle.tpol_laws.proofs.Blocked.{blocked-chance}
use Rattle.tpol_laws.proofs.laws.a_blocked_path_fails.Goals as goal

pub returns : goal.returns
returns c = record {
  served = λ run past turns block bytes begins none offsets complete blocked served.
      let chance = blocked-chance run past turns block begins none offsets complete blocked (inl (record { bytes = bytes; is = served })) in
      (chance.before, chance.within, chance.is);
  fails = λ run past turns block session begins none offsets complete blocked place success.
      let chance = blocked-chance run past turns block begins none offsets complete blocked (inr (record { session = session; place = place; success = success })) in
      (chance.before, chance.within, chance.is);
}
