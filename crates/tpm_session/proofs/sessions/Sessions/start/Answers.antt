use Rattle.std.proofs.Common.{◌≡◌, ◌+◌, ◌-◌, ap, sym, ◌∙◌, arith}
use Rattle.tpm_session.specs.Slots.{is_free, state_at, slot_count, first_handle}
use Rattle.tpm_session.proofs.Least.{none-below, least-is}
use Rattle.tpm_session.proofs.Slots.{free-apart}
use Rattle.tpm_session.proofs.sessions.Sessions.start.Goals as goal

pub returns-in_default-clause-full : goal.returns-in_default-clause-full
returns-in_default-clause-full c = none-below (is_free c.args.self.now c.args.taken) slot_count (sym c.in_default.ensures.least)

pub put_back-requires-clause-apart : goal.put_back-requires-clause-apart
put_back-requires-clause-apart c =
    let least = least-is (is_free c.args.self.now c.args.taken) slot_count c.in-Some.slot (sym c.in-Some.ensures.least) in
    ap (λ session. state_at c.args.self.now session.handle) c.new.ensures ∙ free-apart c.args.self.now c.args.taken c.in-Some.slot least.passes

pub returns-clause-least : goal.returns-clause-least
returns-clause-least c slot less =
    (least-is (is_free c.args.self.now c.args.taken) slot_count c.in-Some.slot (sym c.in-Some.ensures.least)).first slot (omega (arith, less))

pub returns-clause-free : goal.returns-clause-free
returns-clause-free c =
    let same : first_handle + c.in-Some.slot - first_handle ≡ c.in-Some.slot = omega arith in
    ap (is_free c.args.self.now c.args.taken) same
    ∙ (least-is (is_free c.args.self.now c.args.taken) slot_count c.in-Some.slot (sym c.in-Some.ensures.least)).passes
