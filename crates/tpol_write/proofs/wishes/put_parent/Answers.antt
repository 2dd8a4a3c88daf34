use Rattle.tpol_write.proofs.Steps.{on_ok, step}
use Rattle.tpol_write.proofs.wishes.put_parent.Goals as goal

pub returns-in_ok-name-in-Public-clause-tokens : goal.returns-in_ok-name-in-Public-clause-tokens
returns-in_ok-name-in-Public-clause-tokens c =
    rw c.in-Public.is (on_ok c.write_object_public.result (λ ends. step c.in_ok-name-in-Public.ensures ends) c.write_object_public.ensures.tokens)

pub returns-in-Named-clause-tokens : goal.returns-in-Named-clause-tokens
returns-in-Named-clause-tokens c = rw c.in-Named.is c.put_name.ensures
