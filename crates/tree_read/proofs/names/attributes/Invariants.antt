use Rattle.wast_grammar.specs.Read.{read, left_of}
use Rattle.wast_grammar.specs.NameRows.{attributes, attribute}
use Rattle.wast_grammar.proofs.ThreeParts.{SoFar}
use Rattle.tree_read.specs.NameParts.{said}
use Rattle.tree_read.proofs.names.attributes.Given as goal

abbrev pub invariant-parts : goal.invariant-parts
invariant-parts l = SoFar (attribute "implements") (attribute "version-suffix") (attribute "external-id") said l.implements l.version_suffix l.external_id l.reader (read attributes l.fn.reader)

abbrev pub decreases-parts : goal.decreases-parts
decreases-parts l = left_of l.reader
