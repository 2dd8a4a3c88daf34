-- Worked values of the definitions, so that a wrong byte in them does not check.
use Rattle.std.proofs.Common.{◌≡◌, ℕ, List, ◌++◌, ◌∷◌, [], true, false, codes, replicate, refl}
use Rattle.sha2.specs.Sha256.{compress, digest_bytes, first_words, hash_after, rounds, schedule, sha256}
use Rattle.tpol_base.specs.Name.{name_bytes}
use Rattle.tpol_name.specs.declared.areas.NvPublic.{NvPublic}
use Rattle.tpol_name.specs.declared.areas.ObjectPublic.{ObjectPublic}
use Rattle.tpol_name.specs.declared.areas.Scheme.TheVariants.{HmacKey}
use Rattle.tpol_name.specs.Areas.{index_name, is_written, object_name, with_written}
use Rattle.tpol_name.specs.Paths.{is_same_path, path_key}

-- the authPolicy of an endorsement key: PolicySecret of the endorsement hierarchy
endorsement_policy : List ℕ
endorsement_policy =
    0x83 ∷ 0x71 ∷ 0x97 ∷ 0x67 ∷ 0x44 ∷ 0x84 ∷ 0xb3 ∷ 0xf8 ∷ 0x1a ∷ 0x90 ∷ 0xcc ∷ 0x8d ∷ 0x46 ∷ 0xa5 ∷ 0xd7 ∷ 0x24 ∷
    0xfd ∷ 0x52 ∷ 0xd7 ∷ 0x6e ∷ 0x06 ∷ 0x52 ∷ 0x0b ∷ 0x64 ∷ 0xf2 ∷ 0xa1 ∷ 0xda ∷ 0x1b ∷ 0x33 ∷ 0x14 ∷ 0x69 ∷ 0xaa ∷ []

-- the index of the authPolicy of endorsement keys (TCG EK Credential Profile)
policy_index : NvPublic
unfolding endorsement_policy
policy_index =
    record { index = 0x01c07f01; attributes = 0x220f1008; auth_policy = endorsement_policy; size = 34 }

name_of_policy_index : name_bytes (index_name policy_index) ≡
    0x00 ∷ 0x0b ∷ 0x0c ∷ 0x9d ∷ 0x71 ∷ 0x7e ∷ 0x9c ∷ 0x3f ∷ 0xe6 ∷ 0x9f ∷ 0xda ∷ 0x41 ∷ 0x76 ∷ 0x94 ∷ 0x50 ∷ 0xbb ∷
    0x14 ∷ 0x59 ∷ 0x57 ∷ 0xf8 ∷ 0xb3 ∷ 0x61 ∷ 0x0e ∷ 0x08 ∷ 0x4d ∷ 0xbf ∷ 0x65 ∷ 0x59 ∷ 0x1a ∷ 0x5d ∷ 0x11 ∷ 0xec ∷
    0xd8 ∷ 0x3f ∷ []
unfolding endorsement_policy policy_index first_words schedule rounds compress hash_after digest_bytes sha256
name_of_policy_index = refl

-- the same index before it is written
unwritten_policy_index : NvPublic
unfolding endorsement_policy
unwritten_policy_index =
    record { index = 0x01c07f01; attributes = 0x020f1008; auth_policy = endorsement_policy; size = 34 }

name_once_written : with_written unwritten_policy_index ≡ policy_index
unfolding endorsement_policy policy_index unwritten_policy_index
name_once_written = refl

policy_index_is_written : is_written 0x220f1008 ≡ true
policy_index_is_written = refl

fresh_index_is_not : is_written 0x120f1008 ≡ false
fresh_index_is_not = refl

-- the digest that a TPM gives to PolicyAuthorize by a key's Name and then PolicyCommandCode of Unseal
digest_of_approved_unseal : List ℕ → List ℕ
digest_of_approved_unseal name =
    sha256 (sha256 (sha256 (replicate 32 0 ++ (0x00 ∷ 0x00 ∷ 0x01 ∷ 0x6a ∷ []) ++ name) ++ [])
    ++ (0x00 ∷ 0x00 ∷ 0x01 ∷ 0x6c ∷ 0x00 ∷ 0x00 ∷ 0x01 ∷ 0x5e ∷ []))

signing_key : ObjectPublic
signing_key =
    record { attributes = 0x00040040; auth_policy = []; scheme = HmacKey; unique = replicate 32 0x11 }

approved_by_signing_key : digest_of_approved_unseal (name_bytes (object_name signing_key)) ≡
    0x34 ∷ 0x05 ∷ 0x2b ∷ 0xda ∷ 0xc7 ∷ 0x36 ∷ 0x4d ∷ 0xd4 ∷ 0xed ∷ 0xdf ∷ 0xc2 ∷ 0x83 ∷ 0xdd ∷ 0xdb ∷ 0xb4 ∷ 0x75 ∷
    0xf2 ∷ 0x7f ∷ 0x4e ∷ 0x20 ∷ 0x13 ∷ 0x19 ∷ 0x86 ∷ 0x81 ∷ 0x5e ∷ 0x05 ∷ 0xe7 ∷ 0x1a ∷ 0x7d ∷ 0x7f ∷ 0xe1 ∷ 0x54 ∷ []
unfolding digest_of_approved_unseal signing_key first_words schedule rounds compress hash_after digest_bytes sha256
approved_by_signing_key = refl

key_of_profile_path : path_key (codes "/P_RSA2048SHA256/HS/SRK") ≡ codes "HS/SRK"
key_of_profile_path = refl

key_of_second_profile : path_key (codes "/P_A/P_B/x") ≡ codes "P_B/x"
key_of_second_profile = refl

key_of_lower_case : path_key (codes "//p_a/x") ≡ codes "/p_a/x"
key_of_lower_case = refl

key_of_profile_alone : path_key (codes "P_A") ≡ []
key_of_profile_alone = refl

same_without_slash : is_same_path (codes "/HS/SRK") (codes "P_ECC/HS/SRK") ≡ true
same_without_slash = refl

case_counts : is_same_path (codes "hs") (codes "HS") ≡ false
case_counts = refl
