-- What a contract sees of a chain.
use Rattle.dns_flat.specs.declared.chain.Chain.{Chain}

abbrev pub left_of : {L R : Type 0} {ghosts others : _} → Chain L R ghosts others → L
left_of chain = chain.left

abbrev pub right_of : {L R : Type 0} {ghosts others : _} → Chain L R ghosts others → R
right_of chain = chain.right
