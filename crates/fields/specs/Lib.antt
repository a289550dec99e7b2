-- Node::Record: its pairs as image and slots tell of them, its rule, and the visits of its values.
pub mod Read
pub mod Parts
pub mod RecordVisits
