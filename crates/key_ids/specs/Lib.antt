pub mod KeyIds
