-- Where the code stands, and what it found.
use Rattle.std.specs.Prelude.{length}
use Rattle.bp_tcpcl.specs.declared.at.At.{At}
use Rattle.bp_tcpcl.specs.declared.message.Message.TheVariants as messages
use Rattle.bp_tcpcl.specs.declared.message.Item.{Item}
use Rattle.bp_tcpcl.specs.declared.message.Item.TheVariants as items
use Rattle.bp_tcpcl.specs.declared.part.Part.{Part}
use Rattle.bp_tcpcl.specs.declared.part.Part.TheVariants as parts
use Rattle.bp_tcpcl.specs.Reading.{Cursor}

-- the place, without where the bytes lie in memory
abbrev pub seen : At → Cursor
seen here = record { begin = here.begin; at = here.place; rest = here.rest.now }

-- the item, with the bytes that it points to
abbrev pub item_of : Part → Item
item_of (parts.Contact flags) = items.Contact flags
item_of (parts.Init keepalive segment_mru transfer_mru node extensions) = items.Message (messages.Init keepalive segment_mru transfer_mru node.now extensions.now)
item_of (parts.Segment flags transfer extensions content) = items.Message (messages.Segment flags transfer extensions.now content.now)
item_of (parts.Ack flags transfer length) = items.Message (messages.Ack flags transfer length)
item_of (parts.Refuse reason transfer) = items.Message (messages.Refuse reason transfer)
item_of parts.KeepAlive = items.Message messages.KeepAlive
item_of (parts.Term flags reason) = items.Message (messages.Term flags reason)
item_of (parts.Reject reason header) = items.Message (messages.Reject reason header)
