-- The first of all faults of a scene is the one that its reading meets.
use Rattle.std.proofs.Common.{◌≡◌, true, false, List, [], ◌∷◌, ◌++◌, refl, sym, ap, subst, ◌∙◌}
use Rattle.std.specs.Prelude.{Some, None, Ok, Err, slice_get, codes}
use Rattle.serde_json.specs.Data.{Data}
use Rattle.tpol_base.specs.Answers.{◌>>=◌}
use Rattle.tpol_base.specs.Digest.{zero_digest}
use Rattle.tpol_json.specs.Places.{root}
use Rattle.tpol_json.specs.declared.place.Place.{Place}
use Rattle.tpol_entities.specs.Entities.{entity_in, entities_in, no_entities}
use Rattle.tpol_entities.specs.Faults.{Fault, Found, first_of}
use Rattle.tpol_entities.specs.Lists.{faults_of, list_faults, optional_faults, optional_kept}
use Rattle.tpol_json.specs.Members.{optional}
use Rattle.tpol_entities.specs.Pcrs.{pcr_in, pcrs_in, zero_bank}
use Rattle.tpol_entities.specs.Values.{object_in, u32_in, truth_in, digest_in, auth_in}
use Rattle.tpol_entities.specs.declared.entities.Entities.{Entities}
use Rattle.tpol_entities.proofs.FirstLemmas.{Leads, fault_in, kept-optional, leads-one, leads-optional, leads-read, leads-then, same_ok}
use Rattle.tpol_scene.specs.Clients.{ClientList, client_in, clients_in}
use Rattle.tpol_scene.specs.Scenes.{authorities_in, authorities_faults, cast_faults, cast_in, cast_kept, entities_kept, scene_faults, scene_in, start_faults, start_in, time_in, times_in, times_faults}
use Rattle.tpol_scene.specs.Scripts.{event_in, no_events, script_in}
use Rattle.tpol_scene.specs.declared.cast.Cast.{Cast}
use Rattle.tpol_scene.specs.declared.scene.Scene.{Scene}

-- a reading and nothing behind it
leads-end : {A B : Type 0} (faults : List Fault) (reading : Found A) (next : A → B) → Leads faults reading → Leads faults (reading >>= λ x. Ok (next x))
leads-end faults (Ok x) next leads = record { first = leads.first }
leads-end faults (Err fault) next leads = record { first = leads.first }

-- a member and what stands behind it
leads-member : {A B : Type 0} (reading : Found A) (more : List Fault) (next : A → Found B)
    → ((x : A) → Leads more (next x)) → Leads (faults_of reading ++ more) (reading >>= next)
leads-member reading more next behind = leads-then (faults_of reading) more reading next (leads-one reading) behind

leads-authorities : (d : Data) (place : Place) → Leads (authorities_faults d place) (authorities_in d place)
unfolding authorities_in
leads-authorities d place =
    leads-member (optional digest_in zero_digest (codes "seed") d place) _ _ (λ seed.
    leads-member (optional auth_in [] (codes "owner") d place) _ _ (λ owner.
    leads-member (optional auth_in [] (codes "endorsement") d place) _ _ (λ endorsement.
    leads-end _ (optional auth_in [] (codes "lockout") d place) _ (leads-one (optional auth_in [] (codes "lockout") d place)))))

leads-times : (d : Data) (place : Place) → Leads (times_faults d place) (times_in d place)
unfolding times_in
leads-times d place =
    leads-member (optional time_in 0 (codes "time") d place) _ _ (λ time.
    leads-member (optional u32_in 0 (codes "resetCount") d place) _ _ (λ reset_count.
    leads-member (optional u32_in 0 (codes "restartCount") d place) _ _ (λ restart_count.
    leads-member (optional truth_in true (codes "safe") d place) _ _ (λ safe.
    leads-end _ (optional truth_in false (codes "presence") d place) _ (leads-one (optional truth_in false (codes "presence") d place))))))

leads-start : (d : Data) (place : Place) → Leads (start_faults d place) (start_in d place)
unfolding start_in
leads-start d place =
    leads-then (authorities_faults d place) _ (authorities_in d place) _ (leads-authorities d place) (λ authorities.
    leads-then (optional_faults (list_faults pcr_in zero_bank) (codes "pcrs") d place) _ (optional pcrs_in zero_bank (codes "pcrs") d place) _
    (leads-optional pcr_in zero_bank (codes "pcrs") d place) (λ bank.
    leads-member (optional u32_in 0 (codes "pcrCounter") d place) _ _ (λ pcr_counter.
    leads-end _ (times_in d place) _ (leads-times d place))))

-- ---- entities and clients

leads-clients : (d : Data) (place : Place) (kept entities : Entities) → kept ≡ entities
    → Leads (optional_faults (list_faults (client_in kept) []) (codes "clients") d place) (optional (clients_in entities) [] (codes "clients") d place)
leads-clients d place kept entities same =
    let P : Entities → Type 0 = λ e. Leads (optional_faults (list_faults (client_in e) []) (codes "clients") d place) (optional (clients_in entities) [] (codes "clients") d place) in
    subst P (sym same) (leads-optional (client_in entities) [] (codes "clients") d place)

leads-cast : (d : Data) (place : Place) → Leads (cast_faults d place) (cast_in d place)
unfolding cast_in
leads-cast d place =
    leads-read (optional_faults (list_faults entity_in no_entities) (codes "entities") d place) _ (optional entities_in no_entities (codes "entities") d place) _
    (leads-optional entity_in no_entities (codes "entities") d place) (λ entities reads.
    leads-end _ (optional (clients_in entities) [] (codes "clients") d place) _
    (leads-clients d place (entities_kept d place) entities (kept-optional entity_in no_entities (codes "entities") d place entities reads)))

abbrev cast_of : Entities → ClientList → Found Cast
cast_of entities clients = Ok (record { entities = entities; clients = clients })

kept-clients : (reading : Found ClientList) (entities kept : Entities) (clients : ClientList) (cast : Cast) → kept ≡ entities
    → ((x : ClientList) → reading ≡ Ok x → clients ≡ x) → (reading >>= cast_of entities) ≡ Ok cast → record { entities = kept; clients = clients } ≡ cast
kept-clients (Ok found) entities kept clients cast same h e =
    let parts : record { entities = kept; clients = clients } ≡ record { entities = entities; clients = found } = λ i. record { entities = same i; clients = h found refl i } in
    parts ∙ same_ok (record { entities = entities; clients = found }) cast e
kept-clients (Err fault) entities kept clients cast same h e = absurd cc

kept-entities : (reading : Found Entities) (clients : Entities → Found ClientList) (kept : Entities) (kept_beside : Entities → ClientList) (cast : Cast)
    → ((x : Entities) → reading ≡ Ok x → kept ≡ x) → ((entities : Entities) (x : ClientList) → clients entities ≡ Ok x → kept_beside entities ≡ x)
    → (reading >>= λ entities. clients entities >>= cast_of entities) ≡ Ok cast → record { entities = kept; clients = kept_beside kept } ≡ cast
kept-entities (Ok entities) clients kept kept_beside cast first second e =
    kept-clients (clients entities) entities kept (kept_beside kept) cast (first entities refl)
    (λ x reads. ap kept_beside (first entities refl) ∙ second entities x reads) e
kept-entities (Err fault) clients kept kept_beside cast first second e = absurd cc

kept-cast : (d : Data) (place : Place) (cast : Cast) → cast_in d place ≡ Ok cast → cast_kept d place ≡ cast
unfolding cast_in
kept-cast d place cast e =
    kept-entities (optional entities_in no_entities (codes "entities") d place) (λ entities. optional (clients_in entities) [] (codes "clients") d place)
    (entities_kept d place) (λ entities. optional_kept (client_in entities) [] (codes "clients") d place) cast
    (λ entities reads. kept-optional entity_in no_entities (codes "entities") d place entities reads)
    (λ entities clients reads. kept-optional (client_in entities) [] (codes "clients") d place clients reads) e

-- ---- the script, and the whole

leads-script : (d : Data) (place : Place) (kept cast : Cast) → kept ≡ cast
    → Leads (optional_faults (list_faults (event_in kept) no_events) (codes "script") d place) (optional (script_in cast) no_events (codes "script") d place)
leads-script d place kept cast same =
    let P : Cast → Type 0 = λ c. Leads (optional_faults (list_faults (event_in c) no_events) (codes "script") d place) (optional (script_in cast) no_events (codes "script") d place) in
    subst P (sym same) (leads-optional (event_in cast) no_events (codes "script") d place)

-- of all faults of a scene the first is the one that its reading meets
pub leads-scene : (d : Data) → Leads (scene_faults d) (scene_in d root)
unfolding scene_in scene_faults
leads-scene d =
    leads-member (object_in d root) _ _ (λ is_object.
    leads-then (start_faults d root) _ (start_in d root) _ (leads-start d root) (λ start.
    leads-read (cast_faults d root) _ (cast_in d root) _ (leads-cast d root) (λ cast reads.
    leads-end _ (optional (script_in cast) no_events (codes "script") d root) _
    (leads-script d root (cast_kept d root) cast (kept-cast d root cast reads)))))

no_fault_if_empty : (faults : List Fault) → slice_get faults 0 ≡ None → faults ≡ []
no_fault_if_empty [] e = refl
no_fault_if_empty (fault ∷ faults) e = absurd cc

-- a scene that is read has no fault
pub no_fault : (d : Data) (scene : Scene) → scene_in d root ≡ Ok scene → scene_faults d ≡ []
no_fault d scene reads = no_fault_if_empty (scene_faults d) ((leads-scene d).first ∙ ap fault_in reads)

-- a scene that is refused has this fault first
pub first_fault : (d : Data) (fault : Fault) → scene_in d root ≡ Err fault → first_of (scene_faults d) ≡ Some fault
first_fault d fault refused = (leads-scene d).first ∙ ap fault_in refused
