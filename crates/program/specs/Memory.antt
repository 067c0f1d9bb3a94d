-- The store that lies in a memory.
use Rattle.store.specs.Store.{Store, store_of}
use Rattle.program.specs.declared.memory.Memory.{Memory}

abbrev pub store_in : Memory → Store
store_in m = store_of m.words m.tmarks m.bytes m.fmarks
