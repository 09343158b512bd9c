-- The first line of what is printed of a recipe.
use Rattle.std.specs.Prelude.{ℕ, List, ◌++◌, length, codes, decimal}
use Rattle.vault_types.specs.declared.Recipe.{Recipe}
use Rattle.vault_types.specs.Texts.{text_line, version_text}

abbrev pub head_text : Recipe → List ℕ
head_text r =
    text_line
    (codes "version " ++ version_text r.set r.version ++ codes " length " ++ decimal r.length
    ++ codes " next " ++ decimal r.next
    ++ codes " chunks " ++ decimal (length r.rows) ++ codes " sparse " ++ decimal (length r.sparse))
