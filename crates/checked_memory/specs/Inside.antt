-- What a memory's fields stand for.
use Rattle.checked_memory.specs.declared.Memory.TheInside.{Inside}
use Rattle.checked_memory.specs.Contents.{Contents}
use Rattle.checked_memory.specs.Entries.{entries, contents, Holds}

-- what the objects stand for
abbrev pub contents_of : Inside → Contents
contents_of a = contents (entries a.objects.items)

-- the objects stand for a memory
abbrev pub IsMemory : Inside → Type 0
IsMemory a = Holds (entries a.objects.items) a.latest a.touched
