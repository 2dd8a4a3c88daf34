-- What a machine starts from, as a scene says it that is read, meets what the machine asks.
use Rattle.std.proofs.Common.{◌≡◌, ℕ, ◌^◌, ◌≤◌, true, false, List, [], length, arith}
use Rattle.std.specs.Prelude.{⊤, codes}
use Rattle.serde_json.specs.Data.{Data}
use Rattle.tpol_json.proofs.AllFound.{AllFound, all_map, all_then}
use Rattle.tpol_json.specs.declared.place.Place.{Place}
use Rattle.tpol_name.specs.Setups.{IsAuthValue}
use Rattle.tpol_json.specs.Members.{optional}
use Rattle.tpol_entities.specs.Pcrs.{pcrs_in, zero_bank}
use Rattle.tpol_scene.specs.Scenes.{authorities_in, start_in, times_in, time_in}
use Rattle.tpol_base.specs.Digest.{zero_digest}
use Rattle.tpol_entities.specs.Values.{u32_in, truth_in, digest_in, auth_in}
use Rattle.tpol_entities.proofs.ValueLemmas.{any_ok, optional_ok, empty_auth, auth_ok, unsigned_ok}
use Rattle.tpol_entities.proofs.PcrLemmas.{IsWhole, pcrs_ok}
use Rattle.tpol_scene.specs.declared.start.Authorities.{Authorities}
use Rattle.tpol_scene.specs.declared.start.Times.{Times}
use Rattle.tpol_scene.specs.declared.start.Start.{Start}

record AuthoritiesFit (authorities : Authorities) : Type 0 where
  pub owner : IsAuthValue authorities.owner
  pub endorsement : IsAuthValue authorities.endorsement
  pub lockout : IsAuthValue authorities.lockout

auth_member_ok : (name : List ℕ) (d : Data) (place : Place) → AllFound IsAuthValue (optional auth_in [] name d place)
auth_member_ok name d place = optional_ok IsAuthValue auth_in [] empty_auth auth_ok name d place

authorities_ok : (d : Data) (place : Place) → AllFound AuthoritiesFit (authorities_in d place)
unfolding authorities_in
authorities_ok d place =
    all_then (λ _. ⊤) AuthoritiesFit (optional digest_in zero_digest (codes "seed") d place) _ (any_ok _) (λ seed _.
    all_then IsAuthValue AuthoritiesFit (optional auth_in [] (codes "owner") d place) _ (auth_member_ok (codes "owner") d place) (λ owner of_owner.
    all_then IsAuthValue AuthoritiesFit (optional auth_in [] (codes "endorsement") d place) _ (auth_member_ok (codes "endorsement") d place) (λ endorsement of_endorsement.
    all_then IsAuthValue AuthoritiesFit (optional auth_in [] (codes "lockout") d place) _ (auth_member_ok (codes "lockout") d place) (λ lockout of_lockout.
    record { owner = of_owner; endorsement = of_endorsement; lockout = of_lockout }))))

abbrev IsEarly : Times → Type 0
IsEarly times = times.time ≤ 2 ^ 62

early_ok : (d : Data) (place : Place) → AllFound (λ time. time ≤ 2 ^ 62) (time_in d place)
early_ok d place = all_map (λ n. (0 ≤ n) × (n ≤ 2 ^ 62)) (λ time. time ≤ 2 ^ 62) (time_in d place) (unsigned_ok 0 (2 ^ 62) d place) (λ time fits. fits.1)

times_ok : (d : Data) (place : Place) → AllFound IsEarly (times_in d place)
unfolding times_in
times_ok d place =
    all_then (λ time. time ≤ 2 ^ 62) IsEarly (optional time_in 0 (codes "time") d place) _
    (optional_ok (λ time. time ≤ 2 ^ 62) time_in 0 (omega arith) early_ok (codes "time") d place) (λ time early.
    all_then (λ _. ⊤) IsEarly (optional u32_in 0 (codes "resetCount") d place) _ (any_ok _) (λ reset_count _.
    all_then (λ _. ⊤) IsEarly (optional u32_in 0 (codes "restartCount") d place) _ (any_ok _) (λ restart_count _.
    all_then (λ _. ⊤) IsEarly (optional truth_in true (codes "safe") d place) _ (any_ok _) (λ safe _.
    all_then (λ _. ⊤) IsEarly (optional truth_in false (codes "presence") d place) _ (any_ok _) (λ presence _. early)))))

-- what a machine starts from but for its entities
pub record StartFits (start : Start) : Type 0 where
  pub owner : IsAuthValue start.authorities.owner
  pub endorsement : IsAuthValue start.authorities.endorsement
  pub lockout : IsAuthValue start.authorities.lockout
  pub whole : length start.pcrs ≡ 24
  pub early : start.times.time ≤ 2 ^ 62

pub start_ok : (d : Data) (place : Place) → AllFound StartFits (start_in d place)
unfolding start_in
start_ok d place =
    all_then AuthoritiesFit StartFits (authorities_in d place) _ (authorities_ok d place) (λ authorities fit.
    all_then IsWhole StartFits (optional pcrs_in zero_bank (codes "pcrs") d place) _ (pcrs_ok d place) (λ bank whole.
    all_then (λ _. ⊤) StartFits (optional u32_in 0 (codes "pcrCounter") d place) _ (any_ok _) (λ pcr_counter _.
    all_then IsEarly StartFits (times_in d place) _ (times_ok d place) (λ times early.
    record { owner = fit.owner; endorsement = fit.endorsement; lockout = fit.lockout; whole = whole; early = early }))))
