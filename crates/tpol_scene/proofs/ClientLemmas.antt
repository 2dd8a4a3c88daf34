-- What the clients of a scene meet.
use Rattle.std.proofs.Common.{◌≡◌, ℕ, suc, ◌≤◌, ◌<◌, false, List, [], ◌∷◌, ◌++◌, length, refl, arith, length-append}
use Rattle.std.specs.Prelude.{⊤, All, map, nat_eq, nat_lt, codes}
use Rattle.std.specs.List.{IsDistinct}
use Rattle.std.proofs.lemmas.Bool.{ltb-true}
use Rattle.std.proofs.lemmas.List.Elements.{All-nil, All-push}
use Rattle.serde_json.specs.Data.{Data}
use Rattle.tpol_goal.specs.declared.grants.Grants.{Grants}
use Rattle.tpol_goal.specs.Grants.{IsGrants}
use Rattle.tpol_json.proofs.AllFound.{AllFound, all_read, all_then}
use Rattle.tpol_json.specs.Values.{is_within_limit}
use Rattle.tpol_json.specs.declared.fault.MemberKind.TheVariants.{TooMany}
use Rattle.tpol_json.specs.declared.place.Place.{Place}
use Rattle.tpol_name.specs.Setups.{IsAuthValue}
use Rattle.tpol_entities.specs.Faults.{kind_of, read_as}
use Rattle.tpol_json.specs.Members.{optional}
use Rattle.tpol_entities.specs.Members.{needed}
use Rattle.tpol_entities.specs.Targets.{target_in}
use Rattle.tpol_entities.specs.Values.{object_in, u32_in, bytes_up_to, auth_in}
use Rattle.tpol_entities.specs.declared.entities.Entities.{Entities}
use Rattle.tpol_entities.specs.declared.fault.SceneKind.TheVariants.{Twice}
use Rattle.tpol_entities.specs.declared.targets.Target.{Target}
use Rattle.tpol_entities.proofs.EntryLemmas.{handles-push}
use Rattle.tpol_entities.proofs.ValueLemmas.{any_ok, auth_ok, empty_auth, list_counted, list_ok, needed_ok, optional_ok, refuted, short_ok, tested}
use Rattle.tpol_scene.specs.Clients.{ClientList, Values, client_in, clients_in, grant_in, grant_target, grant_value_in, grants_in, has_value, is_client, new_client_in, new_target_in}
use Rattle.tpol_scene.specs.Conditions.{AreClients}
use Rattle.tpol_scene.specs.declared.grants.GrantKind.{GrantKind}
use Rattle.tpol_scene.specs.declared.grants.GrantKind.TheVariants.{Secret, Key}

-- an item past the limit is not read
pub within : (limit index : ℕ) (place : Place) → AllFound (λ _. index < limit) (read_as (is_within_limit limit index place))
within limit index place =
    all_read (λ _. index < limit) kind_of (is_within_limit limit index place) (tested (λ _. index < limit) (nat_lt index limit) tt TooMany place (ltb-true _ _))

-- ---- values by handle

abbrev handle_of : ℕ × List ℕ → ℕ
handle_of value = value.0

-- no handle stands twice, and each value is so
record ValuesFit (P : List ℕ → Type 0) (values : Values) : Type 0 where
  pub handles : IsDistinct nat_eq (map (λ value. value.0) values)
  pub each : All (λ value. P value.1) values

no_values : (P : List ℕ → Type 0) → ValuesFit P []
unfolding IsDistinct
no_values P = record { handles = tt; each = All-nil (λ value. P value.1) }

one_more : (P : List ℕ → Type 0) (values : Values) (handle : ℕ) (bytes : List ℕ) → ValuesFit P values → has_value values handle ≡ false → P bytes
    → ValuesFit P (values ++ (handle, bytes) ∷ [])
one_more P values handle bytes fit new so = record {
  handles = handles-push handle_of values (handle, bytes) fit.handles new;
  each = All-push (λ value. P value.1) values (handle, bytes) fit.each so;
}

abbrev IsNewHandle : Values → ℕ → Type 0
IsNewHandle values handle = has_value values handle ≡ false

new_target_ok : (entities : Entities) (target : Target) (values : Values) (d : Data) (place : Place)
    → AllFound (IsNewHandle values) (new_target_in entities target values d place)
new_target_ok entities target values d place =
    all_then (λ _. ⊤) (IsNewHandle values) (target_in entities target d place) _ (any_ok _)
    (λ handle _. refuted (IsNewHandle values) (has_value values handle) handle Twice place (λ e. e))

-- what a value of each kind is
abbrev IsGrant : GrantKind → List ℕ → Type 0
IsGrant Secret bytes = IsAuthValue bytes
IsGrant Key bytes = length bytes ≤ 128

grant_value_ok : (kind : GrantKind) (d : Data) (place : Place) → AllFound (IsGrant kind) (grant_value_in kind d place)
grant_value_ok Secret d place = optional_ok IsAuthValue auth_in [] empty_auth auth_ok (codes "auth") d place
grant_value_ok Key d place = needed_ok (λ bytes. length bytes ≤ 128) (bytes_up_to 128) (short_ok 128) (codes "key") d place

grant_ok : (entities : Entities) (kind : GrantKind) (values : Values) (index : ℕ) (d : Data) (place : Place) → ValuesFit (IsGrant kind) values
    → AllFound (ValuesFit (IsGrant kind)) (grant_in entities kind values index d place)
unfolding grant_in
grant_ok entities kind values index d place fit =
    all_then (λ _. ⊤) (ValuesFit (IsGrant kind)) (object_in d place) _ (any_ok _) (λ is_object _.
    all_then (IsNewHandle values) (ValuesFit (IsGrant kind)) (needed (new_target_in entities (grant_target kind) values) (codes "path") d place) _
    (needed_ok (IsNewHandle values) (new_target_in entities (grant_target kind) values) (new_target_ok entities (grant_target kind) values) (codes "path") d place) (λ handle new.
    all_then (IsGrant kind) (ValuesFit (IsGrant kind)) (grant_value_in kind d place) _ (grant_value_ok kind d place) (λ value so.
    one_more (IsGrant kind) values handle value fit new so)))

grants_ok : (entities : Entities) (kind : GrantKind) (name : List ℕ) (d : Data) (place : Place)
    → AllFound (ValuesFit (IsGrant kind)) (optional (grants_in entities kind) [] name d place)
grants_ok entities kind name d place =
    optional_ok (ValuesFit (IsGrant kind)) (grants_in entities kind) [] (no_values (IsGrant kind))
    (list_ok (ValuesFit (IsGrant kind)) (grant_in entities kind) (grant_ok entities kind) [] (no_values (IsGrant kind))) name d place

-- ---- clients

abbrev number_of : ℕ × Grants → ℕ
number_of client = client.0

-- so many clients were read
pub record ClientsCounted (n : ℕ) (clients : ClientList) : Type 0 where
  pub fit : AreClients clients
  pub count : length clients ≡ n
  pub few : n ≤ 64

abbrev IsNewClient : ClientList → ℕ → Type 0
IsNewClient clients client = is_client clients client ≡ false

new_client_ok : (clients : ClientList) (d : Data) (place : Place) → AllFound (IsNewClient clients) (new_client_in clients d place)
new_client_ok clients d place =
    all_then (λ _. ⊤) (IsNewClient clients) (u32_in d place) _ (any_ok _)
    (λ client _. refuted (IsNewClient clients) (is_client clients client) client Twice place (λ e. e))

client_more : (n : ℕ) (clients : ClientList) (client : ℕ) (secrets keys : Values) → n < 64 → ClientsCounted n clients → IsNewClient clients client
    → ValuesFit (IsGrant Secret) secrets → ValuesFit (IsGrant Key) keys → ClientsCounted (suc n) (clients ++ (client, record { secrets = secrets; keys = keys }) ∷ [])
client_more n clients client secrets keys less counted new fit_secrets fit_keys = record {
  fit = record {
    numbers = handles-push number_of clients (client, record { secrets = secrets; keys = keys }) counted.fit.numbers new;
    grants = All-push (λ (c : ℕ × Grants). IsGrants c.1) clients (client, record { secrets = secrets; keys = keys }) counted.fit.grants
        (record { secret_handles = fit_secrets.handles; key_handles = fit_keys.handles; secrets = fit_secrets.each; keys = fit_keys.each });
  };
  count = omega (arith, counted.count, length-append clients ((client, record { secrets = secrets; keys = keys }) ∷ []));
  few = omega arith;
}

client_ok : (entities : Entities) (clients : ClientList) (index : ℕ) (d : Data) (place : Place) → ClientsCounted index clients
    → AllFound (ClientsCounted (suc index)) (client_in entities clients index d place)
unfolding client_in
client_ok entities clients index d place counted =
    let Q : ClientList → Type 0 = ClientsCounted (suc index) in
    all_then (λ _. index < 64) Q (read_as (is_within_limit 64 index place)) _ (within 64 index place) (λ is_within less.
    all_then (λ _. ⊤) Q (object_in d place) _ (any_ok _) (λ is_object _.
    all_then (IsNewClient clients) Q (needed (new_client_in clients) (codes "client") d place) _
    (needed_ok (IsNewClient clients) (new_client_in clients) (new_client_ok clients) (codes "client") d place) (λ client new.
    all_then (ValuesFit (IsGrant Secret)) Q (optional (grants_in entities Secret) [] (codes "secrets") d place) _ (grants_ok entities Secret (codes "secrets") d place) (λ secrets fit_secrets.
    all_then (ValuesFit (IsGrant Key)) Q (optional (grants_in entities Key) [] (codes "keys") d place) _ (grants_ok entities Key (codes "keys") d place) (λ keys fit_keys.
    client_more index clients client secrets keys less counted new fit_secrets fit_keys)))))

abbrev pub AreFewClients : ClientList → Type 0
AreFewClients clients = (n : ℕ) × ClientsCounted n clients

no_clients : ClientsCounted 0 []
unfolding IsDistinct
no_clients = record { fit = record { numbers = tt; grants = All-nil (λ (c : ℕ × Grants). IsGrants c.1) }; count = refl; few = omega arith }

pub clients_ok : (entities : Entities) (d : Data) (place : Place) → AllFound AreFewClients (optional (clients_in entities) [] (codes "clients") d place)
clients_ok entities d place =
    optional_ok AreFewClients (clients_in entities) [] (0, no_clients)
    (λ e at. list_counted ClientsCounted (client_in entities) (client_ok entities) [] no_clients e at) (codes "clients") d place
