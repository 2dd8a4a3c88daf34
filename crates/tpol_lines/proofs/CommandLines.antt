-- The line of a command, with the digits of its reply behind the rest.
use Rattle.std.proofs.Common.{◌≡◌, ◌++◌, ◌∙◌, ℕ, List, ap, append_assoc, codes}

abbrev pub piece_before : (client locality code rc class : List ℕ) → List ℕ
piece_before client locality code rc class = codes " client " ++ (client ++ (codes " locality " ++ (locality ++ (codes " code " ++ (code ++ (codes " rc " ++ (rc ++ (codes " " ++ (class ++ (codes " reply "))))))))))

pub before_reply : (client locality code rc class reply : List ℕ) → piece_before client locality code rc class ++ reply ≡ codes " client " ++ (client ++ (codes " locality " ++ (locality ++ (codes " code " ++ (code ++ (codes " rc " ++ (rc ++ (codes " " ++ (class ++ (codes " reply " ++ (reply)))))))))))
before_reply client locality code rc class reply =
    let behind_rc = codes " " ++ (class ++ (codes " reply ")) in
    let behind_code = codes " rc " ++ (rc ++ (behind_rc)) in
    let behind_locality = codes " code " ++ (code ++ (behind_code)) in
    let behind_client = codes " locality " ++ (locality ++ (behind_locality)) in
    ap (λ l. codes " client " ++ (l)) (append_assoc client behind_client reply)
    ∙ ap (λ l. codes " client " ++ (client ++ (codes " locality " ++ (l)))) (append_assoc locality behind_locality reply)
    ∙ ap (λ l. codes " client " ++ (client ++ (codes " locality " ++ (locality ++ (codes " code " ++ (l)))))) (append_assoc code behind_code reply)
    ∙ ap (λ l. codes " client " ++ (client ++ (codes " locality " ++ (locality ++ (codes " code " ++ (code ++ (codes " rc " ++ (l)))))))) (append_assoc rc behind_rc reply)
    ∙ ap (λ l. codes " client " ++ (client ++ (codes " locality " ++ (locality ++ (codes " code " ++ (code ++ (codes " rc " ++ (rc ++ (codes " " ++ (l)))))))))) (append_assoc class (codes " reply ") reply)
